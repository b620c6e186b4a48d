use Rattle.std.proofs.Common.{◌≡◌, ℕ, List, [], ◌∷◌, ◌++◌, length, take, map, ap, ◌∙◌, append_assoc, arith}
use Rattle.std.specs.Global.{Vec}
use Rattle.std.proofs.lemmas.List.{append-nil, length-map, length-take, nil_from_length}
use Rattle.std.specs.List.{join_with_byte}
use Rattle.synth_text.proofs.Lists.{map-take-element, join_more}
use Rattle.synth_text.proofs.writing.push_joined.Goals as goal
use Rattle.synth_text.proofs.writing.push_joined.Goals.{then-place-gt0+in_ok-push, else-place-gt0}

regroup : (front texts : List ℕ) (byte : ℕ) (text : List ℕ) → ((front ++ texts) ++ byte ∷ []) ++ text ≡ front ++ (texts ++ byte ∷ text)
regroup front texts byte text = simp append_assoc

pub loop-place-preserved : goal.loop-place-preserved
loop-place-preserved g c =
    let i = c.loop-place.place in
    let item = c.index-items-place.result in
    let text = g.W.Written.text item in
    let texts = map g.W.Written.text (take i c.args.items.now) in
    let next = map-take-element g.W.Written.text c.args.items.now i item c.loop-place-test.true c.index-items-place.is in
    let long : length texts ≡ i = omega (arith, length-map (take i c.args.items.now) g.W.Written.text, length-take i c.args.items.now) in
    rw next
    (elim c.if-place-gt0.branch [
      | then-place-gt0+in_ok-push w ↦
          rw (join_more c.args.separator texts text (omega arith))
          (c.in_ok-push-2.ensures
          ∙ ap (λ (xs : List ℕ). xs ++ text)
          (ap (λ (v : Vec ℕ). v.items) w.out-is ∙ w.in_ok-push.ensures.items
          ∙ ap (λ (xs : List ℕ). xs ++ c.args.separator ∷ []) c.loop-place.invariant)
          ∙ regroup c.args.out.now.items (join_with_byte c.args.separator texts) c.args.separator text)
      | else-place-gt0 w ↦
          let none : texts ≡ [] = nil_from_length texts (omega arith) in
          let before = rw none at c.loop-place.invariant in
          rw none (c.in_ok-push-2.ensures
          ∙ ap (λ (xs : List ℕ). xs ++ text) (ap (λ (v : Vec ℕ). v.items) w.out-is ∙ before ∙ append-nil c.args.out.now.items))
    ])
