-- Each text is one list of items: there is one, and there are no two.
use Rattle.std.proofs.Common.{
  ◌≡◌,
  ◌≢◌,
  ◌⊎◌,
  ℕ,
  zero,
  suc,
  ◌+◌,
  ◌-◌,
  ◌<◌,
  ◌≤◌,
  Bool,
  true,
  false,
  ◌||◌,
  eqb,
  List,
  [],
  ◌∷◌,
  length,
  get_or,
  refl,
  sym,
  ap,
  subst,
  ◌∙◌,
  arith,
  inl,
  inr,
}
use Rattle.std.specs.Bool.{MatchBool}
use Rattle.std.proofs.lemmas.Bool.{cases_Bool, cases_order, cases_eq, both_ways, or_from}
use Rattle.synth_text.specs.declared.items.Item.{Item}
use Rattle.byte_text.specs.Classes.{is_white}
use Rattle.synth_text.specs.Items.{IsGap, IsInside, EndsLevel, IsLevelItem, IsMemoryItem, IsItem, AreItems}

-- ---- no two

-- two gaps from one place that end at bytes that aren't white space end at one place
same_start : (text : List ℕ) (from one other : ℕ) → from ≤ one → from ≤ other → IsGap text from one → IsGap text from other
    → is_white (get_or text one 0) ≡ false → is_white (get_or text other 0) ≡ false → one ≡ other
same_start text from one other after_one after_other gap_one gap_other ends_one ends_other =
    elim (cases_order one other) [
      | inl same ↦ same
      | inr differ ↦ elim differ [
        | inl less ↦ absurd (both_ways _ ends_one (gap_other one after_one less))
        | inr more ↦ absurd (both_ways _ ends_other (gap_one other after_other more))
      ]
    ]

level_no_longer : (text : List ℕ) (start one other : ℕ) → start < one → other ≤ length text → IsLevelItem text start one
    → IsLevelItem text start other → one < other → ⊥
level_no_longer text start one other long within h k less =
    elim h.ended [ inl at_end ↦ absurd (omega arith) | inr ends ↦ k.whole one (omega arith) less ends ]

memory_no_longer : (text : List ℕ) (start one other : ℕ) → other ≤ length text → IsMemoryItem text start one → IsMemoryItem text start other
    → one < other → ⊥
memory_no_longer text start one other within h k less =
    elim h.ended [ inl at_end ↦ absurd (omega arith) | inr closed ↦ k.whole (one - 1) (omega arith) (omega arith) closed.1 ]

same_end : (text : List ℕ) (is_memory : Bool) (start one other : ℕ) → start < one → start < other → one ≤ length text → other ≤ length text
    → MatchBool is_memory (IsMemoryItem text start one) (IsLevelItem text start one)
    → MatchBool is_memory (IsMemoryItem text start other) (IsLevelItem text start other) → one ≡ other
same_end text true start one other long_one long_other within_one within_other h k =
    elim (cases_order one other) [
      | inl same ↦ same
      | inr differ ↦ elim differ [
        | inl less ↦ absurd (memory_no_longer text start one other within_other h k less)
        | inr more ↦ absurd (memory_no_longer text start other one within_one k h more)
      ]
    ]
same_end text false start one other long_one long_other within_one within_other h k =
    elim (cases_order one other) [
      | inl same ↦ same
      | inr differ ↦ elim differ [
        | inl less ↦ absurd (level_no_longer text start one other long_one within_other h k less)
        | inr more ↦ absurd (level_no_longer text start other one long_other within_one k h more)
      ]
    ]

abbrev made : ℕ → ℕ → Bool → Item
made start end is_memory = record { start = start; end = end; is_memory = is_memory }

item_is : (one other : Item) → one.start ≡ other.start → one.end ≡ other.end → one.is_memory ≡ other.is_memory → one ≡ other
item_is one other starts ends kinds =
    ap (λ (n : ℕ). made n one.end one.is_memory) starts ∙ ap (λ (n : ℕ). made other.start n one.is_memory) ends
    ∙ ap (λ (b : Bool). made other.start other.end b) kinds

same_item : (text : List ℕ) (one other : Item) → one.start ≡ other.start → IsItem text one → IsItem text other → one ≡ other
same_item text one other starts h k =
    let kinds : one.is_memory ≡ other.is_memory = h.kind ∙ ap (λ (n : ℕ). eqb (get_or text n 0) 91) starts ∙ sym k.kind in
    let body = rw (sym starts, sym kinds) at k.body in
    item_is one other starts (same_end text one.is_memory one.start one.end other.end h.long
    (omega (arith, k.long)) h.within k.within h.body body) kinds

gap_or_item : (text : List ℕ) (from : ℕ) (item : Item) → from ≤ item.start → IsItem text item → IsGap text from (length text) → ⊥
gap_or_item text from item after h gap = both_ways _ h.first (gap item.start after (omega (arith, h.long, h.within)))

pub same_items : (text : List ℕ) (from : ℕ) (one other : List Item) → AreItems text from one → AreItems text from other → one ≡ other
same_items text from [] [] h k = refl
same_items text from [] (item ∷ items) h k = absurd (gap_or_item text from item k.0 k.2 h)
same_items text from (item ∷ items) [] h k = absurd (gap_or_item text from item h.0 h.2 k)
same_items text from (item ∷ items) (next ∷ others) h k =
    let starts = same_start text from item.start next.start h.0 k.0 h.1 k.1 h.2.first k.2.first in
    let same = same_item text item next starts h.2 k.2 in
    let rest = same_items text item.end items others h.3 (rw (ap (λ (i : Item). i.end) (sym same)) at k.3) in
    ap (λ (i : Item). i ∷ items) same ∙ ap (λ (xs : List Item). next ∷ xs) rest

-- ---- there is one

-- where the white space ends that begins at a place
record GapEnd (text : List ℕ) (from : ℕ) : Type 0 where
  end : ℕ
  after : from ≤ end
  within : end ≤ length text
  gap : IsGap text from end
  stops : (end ≡ length text) ⊎ (is_white (get_or text end 0) ≡ false)

more_white : (text : List ℕ) (from : ℕ) → is_white (get_or text from 0) ≡ true → GapEnd text (from + 1) → GapEnd text from
more_white text from white g = record {
  end = g.end;
  after = omega (arith, g.after);
  within = g.within;
  gap = λ k low high. elim (cases_eq k from) [ inl here ↦ rw here white | inr other ↦ g.gap k (omega arith) high ];
  stops = g.stops;
}

gap_end : (fuel : ℕ) (text : List ℕ) (from : ℕ) → from + fuel ≡ length text → GapEnd text from
gap_end zero text from h =
    record { end = from; after = omega arith; within = omega arith; gap = λ k low high. absurd (omega arith); stops = inl (omega arith) }
gap_end (suc fuel) text from h =
    elim (cases_Bool (is_white (get_or text from 0))) [
      | inl white ↦ more_white text from white (gap_end fuel text (from + 1) (omega arith))
      | inr other ↦ record {
        end = from;
        after = omega arith;
        within = omega arith;
        gap = λ k low high. absurd (omega arith);
        stops =
            inr other;
      }
    ]

record MemoryEnd (text : List ℕ) (start place : ℕ) : Type 0 where
  end : ℕ
  after : place ≤ end
  within : end ≤ length text
  item : IsMemoryItem text start end

memory_end : (fuel : ℕ) (text : List ℕ) (start place : ℕ) → place + fuel ≡ length text → start < place
    → ((k : ℕ) → start < k → k < place → get_or text k 0 ≢ 93) → MemoryEnd text start place
memory_end zero text start place h long none =
    record {
      end = place;
      after = omega arith;
      within = omega arith;
      item =
          record { whole = λ k low high. none k low (omega arith); ended = inl (omega arith) };
    }
memory_end (suc fuel) text start place h long none =
    elim (cases_eq (get_or text place 0) 93) [
      | inl closes ↦ record {
        end = place + 1;
        after = omega arith;
        within = omega arith;
        item =
            record {
              whole = λ k low high. none k low (omega arith);
              ended =
                  inr (omega arith, let e : place + 1 - 1 ≡ place = omega arith in rw e closes);
            };
      }
      | inr other ↦
          let m = memory_end fuel text start (place + 1) (omega arith) (omega arith)
          (λ k low high. elim (cases_eq k place) [ inl here ↦ rw here other | inr apart ↦ none k low (omega arith) ])
          in record { end = m.end; after = omega (arith, m.after); within = m.within; item = m.item }
    ]

record LevelEnd (text : List ℕ) (start place : ℕ) : Type 0 where
  end : ℕ
  after : place ≤ end
  within : end ≤ length text
  item : IsLevelItem text start end

-- whether a place is inside parentheses
abbrev KnowsInside : List ℕ → ℕ → ℕ → Type 0
KnowsInside text start place = IsInside text start place ⊎ (IsInside text start place → ⊥)

still_inside : (text : List ℕ) (start place : ℕ) → get_or text place 0 ≢ 41 → IsInside text start place → IsInside text start (place + 1)
still_inside text start place open_byte h = (
  h.0,
  h.1,
  omega (arith, h.2),
  h.3,
  λ k low high. elim
      (cases_eq k place) [ inl here ↦ rw here open_byte | inr apart ↦ h.4 k low (omega arith) ],
)

was_inside : (text : List ℕ) (start place : ℕ) → get_or text place 0 ≢ 40 → IsInside text start (place + 1) → IsInside text start place
was_inside text start place not_opened h =
    elim (cases_eq h.0 place) [
      | inl here ↦ absurd (not_opened (ap (λ (n : ℕ). get_or text n 0) (sym here) ∙ h.3))
      | inr apart ↦ (h.0, h.1, omega (arith, h.2), h.3, λ k low high. h.4 k low (omega arith))
    ]

not_behind_close : (text : List ℕ) (start place : ℕ) → get_or text place 0 ≢ 40 → get_or text place 0 ≡ 41 → IsInside text start (place + 1)
    → ⊥
not_behind_close text start place no_open closes h =
    elim (cases_eq h.0 place) [
      | inl here ↦ no_open (ap (λ (n : ℕ). get_or text n 0) (sym here) ∙ h.3)
      | inr apart ↦ h.4 place (omega (arith, h.2)) (omega arith) closes
    ]

knows_next : (text : List ℕ) (start place : ℕ) → start ≤ place → KnowsInside text start place → KnowsInside text start (place + 1)
knows_next text start place begun known =
    elim (cases_eq (get_or text place 0) 40) [
      | inl opens ↦ inl (place, begun, omega arith, opens, λ k low high. absurd (omega arith))
      | inr no_open ↦ elim (cases_eq (get_or text place 0) 41) [
        | inl closes ↦ inr (not_behind_close text start place no_open closes)
        | inr no_close ↦ elim known [
          | inl inside ↦ inl (still_inside text start place no_close inside)
          | inr outside ↦ inr (λ h. outside (was_inside text start place no_open h))
        ]
      ]
    ]

level_end : (fuel : ℕ) (text : List ℕ) (start place : ℕ) → place + fuel ≡ length text → start ≤ place → KnowsInside text start place
    → ((k : ℕ) → start ≤ k → k < place → EndsLevel text start k → ⊥) → LevelEnd text start place
level_end zero text start place h begun known none =
    record { end = place; after = omega arith; within = omega arith; item = record { whole = none; ended = inl (omega arith) } }
level_end (suc fuel) text start place h begun known none =
    elim (cases_end text start place known) [
      | inl ends ↦ record { end = place; after = omega arith; within = omega arith; item = record { whole = none; ended = inr ends } }
      | inr goes_on ↦
          let l = level_end fuel text start (place + 1) (omega arith) (omega arith) (knows_next text start place begun known)
          (λ k low high e. elim (cases_eq k place)
          [ inl here ↦ goes_on (subst (EndsLevel text start) here e) | inr apart ↦ none k low (omega arith) e ])
          in record { end = l.end; after = omega (arith, l.after); within = l.within; item = l.item }
    ]
  where
    cases_end : (text : List ℕ) (start place : ℕ) → KnowsInside text start place → EndsLevel text start place
        ⊎ (EndsLevel text start place → ⊥)
    cases_end text start place known =
        elim known [
          | inl inside ↦ inr (λ e. e.outside inside)
          | inr outside ↦ elim (cases_Bool (is_white (get_or text place 0) || eqb (get_or text place 0) 91)) [
            | inl ends ↦ inl (record { byte = ends; outside = outside })
            | inr other ↦ inr (λ e. both_ways _ other e.byte)
          ]
        ]

-- the item that begins at a byte that is no white space
record ItemAt (text : List ℕ) (start : ℕ) : Type 0 where
  item : Item
  begins : item.start ≡ start
  is : IsItem text item

item_at : (text : List ℕ) (start : ℕ) → start < length text → is_white (get_or text start 0) ≡ false → ItemAt text start
item_at text start lt first =
    elim (cases_Bool (eqb (get_or text start 0) 91)) [
      | inl memory ↦
          let m = memory_end (length text - (start + 1)) text start (start + 1) (omega arith) (omega arith)
          (λ k low high. absurd (omega arith)) in
          record {
            item = made start m.end true;
            begins = refl;
            is = record { long = omega (arith, m.after); within = m.within; first = first; kind = sym memory; body = m.item };
          }
      | inr level ↦
          let outside : IsInside text start start → ⊥ = λ h. omega (arith, h.1, h.2) in
          let not_end : EndsLevel text start start → ⊥ = λ e. both_ways _ (or_none (is_white (get_or text start 0)) _ first level) e.byte in
          let l = level_end (length text - (start + 1)) text start (start + 1) (omega arith) (omega arith)
          (knows_next text start start (omega arith) (inr outside))
          (λ k low high e. let here : k ≡ start = omega arith in not_end (subst (EndsLevel text start) here e))
          in
          record {
            item = made start l.end false;
            begins = refl;
            is = record { long = omega (arith, l.after); within = l.within; first = first; kind = sym level; body = l.item };
          }
    ]
  where
    or_none : (a b : Bool) → a ≡ false → b ≡ false → (a || b) ≡ false
    or_none a b ha hb = or_from a b ha hb

pub record ItemsFrom (text : List ℕ) (from : ℕ) : Type 0 where
  pub items : List Item
  pub are : AreItems text from items

next_items : (text : List ℕ) (from : ℕ) (g : GapEnd text from) (i : ItemAt text g.end) → ItemsFrom text i.item.end → ItemsFrom text from
next_items text from g i rest = record {
  items = i.item ∷ rest.items;
  are = (rw i.begins g.after, rw i.begins g.gap, i.is, rest.are);
}

items_from : (fuel : ℕ) (text : List ℕ) (from : ℕ) → from ≤ length text → length text ≤ from + fuel → ItemsFrom text from
items_from zero text from within enough = record { items = []; are = λ k low high. absurd (omega arith) }
items_from (suc fuel) text from within enough =
    let g = gap_end (length text - from) text from (omega arith) in
    elim g.stops [
      | inl at_end ↦ record { items = []; are = subst (IsGap text from) at_end g.gap }
      | inr first ↦ elim (cases_eq g.end (length text)) [
        | inl at_end ↦ record { items = []; are = subst (IsGap text from) at_end g.gap }
        | inr before ↦
            let i = item_at text g.end (omega (arith, g.within)) first in
            next_items text from g i (items_from fuel text i.item.end i.is.within (omega (arith, i.is.long, i.begins, g.after)))
      ]
    ]

pub some_items : (text : List ℕ) → ItemsFrom text 0
some_items text = items_from (length text) text 0 (omega arith) (omega arith)
