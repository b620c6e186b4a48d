use Rattle.std.proofs.Common.{◌≡◌, ◌≤◌, ℕ, List, [], Option, Some, None, inl, refl, sym, ap, subst}
use Rattle.std.specs.Prelude.{◌==◌, All}
use Rattle.std.specs.List.{slice_split}
use Rattle.std.proofs.lemmas.List.Elements.{All-nil, All-push}
use Rattle.byte_text.specs.Cuts.{pieces}
use Rattle.byte_text.specs.Views.{text_at, piece_texts}
use Rattle.byte_text.proofs.CutLaws.{pieces-next, left-falls}
use Rattle.synth_text.specs.IndexTexts.{entries_of}
use Rattle.synth_text.proofs.Entries.{after, goes_on, ends}
use Rattle.lock_select.specs.Texts.{weight_of, weight_limit}
use Rattle.lock_select.proofs.weights.read_list.Goals as goal

starts : (rest : Option (List ℕ)) → after [] rest ≡ rest
starts None = refl
starts (Some others) = refl

pub loop-rest-init : goal.loop-rest-init
loop-rest-init c =
    let none = c.new-weights.ensures.items in
    record {
      listed = rw none (starts (entries_of weight_of (slice_split (λ byte. byte == 44) c.args.text.now)));
      few = subst (All (λ weight. weight ≤ weight_limit)) (sym none) (All-nil (λ (weight : ℕ). weight ≤ weight_limit));
    }

pub returns-in_default-read_weight-clause-refused : goal.returns-in_default-read_weight-clause-refused
returns-in_default-read_weight-clause-refused c =
    let parts = piece_texts c.first_piece.result in
    let next = pieces-next (λ byte. byte == 44) (text_at c.loop-rest.rest) c.in-Some.text.now parts (ap text_at c.in-Some.is)
    c.first_piece.ensures in
    inl (
      refl,
      ends weight_of c.loop-rest.weights.items parts.0 (pieces (λ byte. byte == 44) parts.1) _ (sym c.in_default-read_weight.ensures.weight)
          (rw next at c.loop-rest.invariant.listed),
    )

pub loop-rest-smaller : goal.loop-rest-smaller
loop-rest-smaller c =
    left-falls (λ byte. byte == 44) (text_at c.loop-rest.rest) c.in-Some.text.now (piece_texts c.first_piece.result)
    (ap text_at c.in-Some.is) c.first_piece.ensures

pub loop-rest-preserved : goal.loop-rest-preserved
loop-rest-preserved c =
    let parts = piece_texts c.first_piece.result in
    let next = pieces-next (λ byte. byte == 44) (text_at c.loop-rest.rest) c.in-Some.text.now parts (ap text_at c.in-Some.is)
    c.first_piece.ensures in
    let before = c.loop-rest.weights.items in
    let weight = c.in-Some-read_weight.weight in
    record {
      listed = rw c.in_ok-push.ensures.items (goes_on weight_of before parts.0 weight (pieces (λ byte. byte == 44) parts.1) _
          (sym c.in-Some-read_weight.ensures.weight) (rw next at c.loop-rest.invariant.listed));
      few = rw c.in_ok-push.ensures.items (All-push (λ (w : ℕ). w ≤ weight_limit) before weight c.loop-rest.invariant.few
          c.in-Some-read_weight.ensures.few);
    }
