-- Reading items one after the other.
use mir.Val.{bool_byte}
use Rattle.std.specs.Prelude.{not, if◌then◌else◌}
use Rattle.std.proofs.Common.{
  ◌≡◌,
  ℕ,
  ◌+◌,
  ◌-◌,
  Bool,
  true,
  false,
  List,
  [],
  ◌∷◌,
  ◌++◌,
  Result,
  Ok,
  Err,
  refl,
  sym,
  ap,
  ◌∙◌,
  append_assoc,
  arith,
}
use Rattle.std.proofs.lemmas.List.{append-nil}
use Rattle.synth_text.specs.declared.items.Item.{Item}
use Rattle.synth_text.specs.declared.parts.Placed.{Placed}
use Rattle.synth_text.specs.declared.fault.SynthRule.{SynthRule}
use Rattle.synth_text.specs.declared.fault.Unread.{Unread}
use Rattle.synth_text.specs.Flaws.{◌>>=◌, Fails}
use Rattle.synth_text.specs.Descriptions.{level_items, placed_part, parts_of}
use Rattle.synth_text.proofs.AttributeLaws.{fails_first}

-- the parts so far before those that are left
abbrev pub with_front : List Placed → Result (List Placed) SynthRule → Result (List Placed) SynthRule
with_front front reading = reading >>= λ parts. Ok (front ++ parts)

regroup : (front : List Placed) (part : Placed) (reading : Result (List Placed) SynthRule)
    → with_front front (reading >>= λ parts. Ok (part ∷ parts)) ≡ with_front (front ++ part ∷ []) reading
regroup front part (Ok parts) = ap Ok (simp append_assoc)
regroup front part (Err fault) = refl

pub goes_on : (text : List ℕ) (front : List Placed) (item : Item) (items : List Item) (part : Placed)
    (total : Result (List Placed) SynthRule)
    → placed_part text item (level_items items) ≡ Ok part → with_front front (parts_of text (item ∷ items)) ≡ total
    → with_front (front ++ part ∷ []) (parts_of text items) ≡ total
goes_on text front item items part total read so_far =
    let one : with_front front (parts_of text (item ∷ items)) ≡ with_front (front ++ part ∷ []) (parts_of text items) =
    rw read (regroup front part (parts_of text items)) in
    sym one ∙ so_far

pub stops : (text : List ℕ) (front : List Placed) (item : Item) (items : List Item) (failure : Unread SynthRule)
    (total : Result (List Placed) SynthRule)
    → Fails failure (placed_part text item (level_items items)) → with_front front (parts_of text (item ∷ items)) ≡ total
    → Fails failure total
stops text front item items failure total failed so_far =
    let all = fails_first failure (placed_part text item (level_items items))
    (λ part. parts_of text items >>= λ parts. Ok (part ∷ parts)) failed in
    rw (← so_far) (fails_first failure (parts_of text (item ∷ items)) (λ parts. Ok (front ++ parts)) all)

pub is_done : (front : List Placed) (total : Result (List Placed) SynthRule) → with_front front (Ok []) ≡ total → total ≡ Ok front
is_done front total so_far = sym so_far ∙ ap Ok (append-nil front)

-- how many level items are left behind an item
pub behind_after : (is_memory : Bool) (behind one rest : ℕ) → behind ≡ (if is_memory then 0 else 1) + rest → one ≡ bool_byte (not is_memory)
    → behind - one ≡ rest
behind_after true behind one rest h is = omega arith
behind_after false behind one rest h is = omega arith
