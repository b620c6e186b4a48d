-- Each kind of step keeps the rule of the receipts' table, and tells what it is said to tell.
use Rattle.std.proofs.Common.{◌≡◌, ◌≢◌, ℕ, true, false, List, [], ◌++◌, set, slice_index, refl, ap, sym, ◌∙◌, subst, ⊎_elim}
use Rattle.std.proofs.lemmas.List.{append-nil, append_assoc, map-append}
use mathlib.Core.Option.{some, none}
use lib.ListN.{get_elem?}
use lib.Seq.{set-get_or}
use Rattle.atomic_table.specs.Table.{State, step, keeps, stepped, Allows, Splits, Joins, opening}
use Rattle.atomic_table.proofs.Lists.{at_set, set_else, set_again, at_snoc}
use Rattle.keep_local.specs.declared.turn.Turn.{Turn}
use Rattle.keep_local.specs.declared.receipt_view.ReceiptView.{ReceiptView}
use Rattle.keep_local.specs.ReceiptViews.{before_turns, no_turns, itself, copy_of, shown_to}
use Rattle.keep_local.specs.ReceiptRule.{AreFirst, KnowsAll, Knows, AreOneList}
use Rattle.keep_local.specs.ReceiptSteps.{Knower, recorded_in, recorded, checked}
use Rattle.keep_local.specs.States.{all_tests}
use Rattle.keep_local.proofs.Tied.{one_at}

abbrev St : Type 0
St = State (Unit {0}) ReceiptView

-- none are the first of all, and all are
pub none_first : {A : Type 0} (all : List A) → AreFirst [] all
none_first all = record { behind = all; all_are = refl }

all_first : {A : Type 0} (all : List A) → AreFirst all all
all_first all = record { behind = []; all_are = sym (append-nil all) }

-- one more turn
still_first : (xs all more : List Turn) → AreFirst xs all → AreFirst xs (all ++ more)
still_first xs all more is = record {
  behind = is.behind ++ more;
  all_are = ap (λ (l : List Turn). l ++ more) is.all_are ∙ append_assoc xs is.behind more;
}

-- a seat that isn't home
away : {all : List Turn} {seat : ℕ} (v : ReceiptView) → v.home ≡ false → v.home ≡ true → KnowsAll all seat v
away v not_home is = absurd (let x : false ≡ true = sym not_home ∙ is in cc)

-- a write to a seat of what it may know
kept_set : (words : List ℕ) (s : St) (r : AreOneList s) (id : ℕ) (v w : ReceiptView) → get_elem? s.views id ≡ some v
    → (Knows r.all id v → Knows r.all id w)
    → AreOneList (record { words = words; homes = s.homes; views = set s.views id w })
kept_set words s r id v w at knows = record {
  all = r.all;
  each_seat = λ j u e. ⊎_elim
      (λ (t : (j ≡ id) × (w ≡ u)). subst (λ (x : ℕ × ReceiptView). Knows r.all x.0 x.1) (λ i. (sym t.0 i, t.1 i))
      (knows (r.each_seat id v at)))
      (λ (t : (j ≢ id) × (get_elem? s.views j ≡ some u)). r.each_seat j u t.1)
      (at_set s.views id j w u e);
}

-- splitting off a seat that knows the same
pub copies : (id : ℕ) (v : ReceiptView) → Splits AreOneList id v (itself v) (copy_of v)
copies id v s r at =
    let same : set s.views id v ≡ s.views = set_again s.views id v at in
    let own : Knows r.all id v = r.each_seat id v at in record {
      all = r.all;
      each_seat = λ j u e. ⊎_elim
          (λ e'. r.each_seat j u (ap (λ (vs : List ReceiptView). get_elem? vs j) (sym same) ∙ e'))
          (λ (is : copy_of v ≡ u). subst (Knows r.all j) is
          (record { home = away (copy_of v) refl; known = own.known; shown = none_first r.all }))
          (at_snoc (set s.views id v) (copy_of v) u j e);
    }

-- a seat is shown what another knows
pub shows : (id : ℕ) (v : ReceiptView) (other : ℕ) (w : ReceiptView) → Joins AreOneList id v other w (shown_to v w) no_turns
shows id v other w s r at apart at' =
    let both : ReceiptView = shown_to v w in
    let was : get_elem? s.views other ≡ some w = sym (set_else s.views id other both apart) ∙ at' in
    let taken : Knows r.all other w = r.each_seat other w was in
    let first : AreOneList (record { words = s.words; homes = s.homes; views = set s.views id both }) =
    kept_set s.words s r id v both at (λ own. record {
      home = λ is. record { first = (own.home is).first; turns_are = (own.home is).turns_are };
      known = own.known;
      shown = taken.known;
    }) in
    kept_set s.words (record { words = s.words; homes = s.homes; views = set s.views id both }) first other w no_turns at'
    (λ own. record { home = away no_turns refl; known = none_first first.all; shown = none_first first.all })

-- the load by which the home seat adds turns
pub records : (more : List Turn) (slots id : ℕ) (me : Knower) → me.0.home ≡ true
    → Allows AreOneList slots id me 0 (λ n. n) (recorded more (step slots 0 0 0 none) me)
records more slots id me home s r count at low =
    let v : ReceiptView = me.0 in
    let w : ReceiptView = recorded_in more v in
    let own : Knows r.all id v = r.each_seat id v at in
    let all : v.turns ≡ r.all = (own.home home).turns_are in
    let longer : v.turns ++ more ≡ r.all ++ more = ap (λ (l : List Turn). l ++ more) all in (
      w,
      keeps,
      tt,
      record {
        all = r.all ++ more;
        each_seat = λ j u e. ⊎_elim
            (λ (p : (j ≡ id) × (w ≡ u)). subst (λ (x : ℕ × ReceiptView). Knows (r.all ++ more) x.0 x.1) (λ i. (sym p.0 i, p.1 i))
            (record {
              home = λ is. record { first = (own.home home).first; turns_are = longer };
              known = subst (AreFirst (v.turns ++ more)) longer (all_first (v.turns ++ more));
              shown = still_first v.shown r.all more own.shown;
            }))
            (λ (p : (j ≢ id) × (get_elem? s.views j ≡ some u)). let old : Knows r.all j u = r.each_seat j u p.1 in record {
              home = λ is. absurd (p.0 ((old.home is).first ∙ sym (own.home home).first));
              known = still_first u.turns r.all more old.known;
              shown = still_first u.shown r.all more old.shown;
            })
            (at_set s.views id j w u e);
      },
      refl,
    )

-- the load by the home seat, which tells that what it was shown are the first
pub checks : (slots id : ℕ) (me : Knower) → me.0.home ≡ true
    → Allows AreOneList slots id me 0 (λ n. n) (checked (step slots 0 0 0 none) me)
checks slots id me home s r count at low =
    let words : set s.words 0 (slice_index s.words 0) ≡ s.words = set-get_or s.words 0 0 in
    let views : set s.views id me.0 ≡ s.views = set_again s.views id me.0 at in
    let same : s ≡ stepped s 0 (slice_index s.words 0) id me.1 me.0 keeps =
    λ i. record { words = sym words i; homes = s.homes; views = sym views i } in
    let own : Knows r.all id me.0 = r.each_seat id me.0 at in (
      me.0,
      keeps,
      tt,
      subst AreOneList same r,
      record { view = refl; first = subst (AreFirst me.0.shown) (sym (own.home home).turns_are) own.shown },
    )

-- the table at the start
pub opens : (words : List ℕ) → AreOneList (opening words [] before_turns)
opens words = record {
  all = [];
  each_seat = λ j u e. let p = one_at before_turns u j e in
      subst (λ (y : ℕ × ReceiptView). Knows [] y.0 y.1) (λ i. (sym p.0 i, p.1 i)) (record {
        home = λ _. record { first = refl; turns_are = refl };
        known = none_first [];
        shown = none_first [];
      });
}

-- the tests of the first of some turns are the first of theirs
pub tests_first : (some_of_them all : List Turn) → AreFirst some_of_them all → AreFirst (all_tests some_of_them) (all_tests all)
tests_first some_of_them all is = record {
  behind = all_tests is.behind;
  all_are = ap all_tests is.all_are ∙ map-append (λ (t : Turn). t.tests) some_of_them is.behind;
}
