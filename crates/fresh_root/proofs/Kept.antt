-- Each kind of step keeps the rule of the table of a counted history, and tells what it is said to tell.
use Rattle.std.proofs.Common.{◌≡◌, ◌≢◌, ℕ, zero, suc, ◌+◌, ◌%◌, ◌^◌, ◌<◌, Bool, true, false, cond, List, [], ◌∷◌, ◌++◌, length}
use Rattle.std.proofs.Common.{set, slice_index}
use Rattle.std.proofs.Common.{refl, ap, sym, ◌∙◌, subst, ⊎_elim, length-append, arith}
use Rattle.std.proofs.lemmas.List.Elements.{All-nil, All-cons, All-append}
use mathlib.Core.Option.{some, none, some-injective, some-ne-none}
use mathlib.Core.Logic.{dite}
use native.Mathlib.Decide.{ℕ_discrete}
use lib.ListN.{get_elem?}
use lib.Seq.{set-get_or}
use Rattle.atomic_table.specs.Table.{State, step, keeps, stepped, Allows, Splits, Joins, opening}
use Rattle.atomic_table.proofs.Lists.{at_set, set_else, set_again, at_longer, at_snoc}
use Rattle.fresh_root.specs.Prefixes.{IsPrefixOf}
use Rattle.fresh_root.specs.Rule.{IsHome, SawOf, IsFresh}
use Rattle.fresh_root.specs.Steps.{Seated, with_call, appended, looked}
use Rattle.fresh_root.specs.Views.{first_view, spent_view, itself, copy_of, joined, joined_home, joined_away, shorter}
use Rattle.fresh_root.specs.declared.view.View.{View}
use Rattle.fresh_root.proofs.Prefixes.{none_prefix, whole_prefix, still_prefix, all_still, longer_prefix, shorter_prefix}

abbrev St : Type 0
St = State (Unit {0}) View

-- the seat that was read is there, and a write changes it
set_at : (xs : List View) (i : ℕ) (x y : View) → get_elem? xs i ≡ some x → get_elem? (set xs i y) i ≡ some y
set_at [] i x y e = absurd (some-ne-none x (sym e))
set_at (z ∷ zs) zero x y e = refl
set_at (z ∷ zs) (suc i) x y e = set_at zs i x y e

one_at : (x y : View) (j : ℕ) → get_elem? (x ∷ []) j ≡ some y → (j ≡ 0) × (x ≡ y)
one_at x y zero e = (refl, some-injective x y e)
one_at x y (suc j) e = absurd (some-ne-none y (sym e))

not_both : (b : Bool) → b ≡ false → b ≡ true → ⊥
not_both b f t = let e : false ≡ true = sym f ∙ t in cc

-- a home view that isn't spent is the one
the_home : (s : St) (r : IsFresh s) (id : ℕ) (v : View) → get_elem? s.views id ≡ some v → IsHome v → (id ≡ r.seat) × (v ≡ r.view)
the_home s r id v at is =
    let e = r.alone id v at is in
    (e, some-injective v r.view (sym at ∙ ap (get_elem? s.views) e ∙ r.at))

saw_same : (xs ys : List ℕ) (v : View) → xs ≡ ys → SawOf xs v → SawOf ys v
saw_same xs ys v e saw = subst (λ (l : List ℕ). SawOf l v) e saw

-- a write to a seat, which leaves it home with its list where it is the home view, and makes no other one home
kept_set : (s : St) (r : IsFresh s) (id : ℕ) (v w : View) → get_elem? s.views id ≡ some v → (IsHome w → IsHome v)
    → (IsHome v → IsHome w × (w.list ≡ v.list)) → (w.spent ≡ false → SawOf r.view.list w)
    → IsFresh (record { words = s.words; homes = s.homes; views = set s.views id w })
kept_set s r id v w at back on saw = dite (ℕ_discrete r.seat id)
    (λ e.
    let same : r.view ≡ v = some-injective r.view v (sym r.at ∙ ap (get_elem? s.views) e ∙ at) in
    let now = on (subst IsHome same r.home) in
    let list : r.view.list ≡ w.list = ap (λ (u : View). u.list) same ∙ sym now.1 in record {
      seat = id;
      view = w;
      at = set_at s.views id v w at;
      home = now.0;
      alone = λ j u there is. ⊎_elim (λ (t : (j ≡ id) × (w ≡ u)). t.0)
          (λ (t : (j ≢ id) × (get_elem? s.views j ≡ some u)). r.alone j u t.1 is ∙ e)
          (at_set s.views id j w u there);
      count = r.count ∙ ap (λ (l : List ℕ). length l ∷ []) list;
      each = λ j u there unspent. ⊎_elim
          (λ (t : (j ≡ id) × (w ≡ u)). subst (SawOf w.list) t.1
          (saw_same r.view.list w.list w list (saw (ap (λ (x : View). x.spent) t.1 ∙ unspent))))
          (λ (t : (j ≢ id) × (get_elem? s.views j ≡ some u)). saw_same r.view.list w.list u list (r.each j u t.1 unspent))
          (at_set s.views id j w u there);
    })
    (λ ne. record {
      seat = r.seat;
      view = r.view;
      at = set_else s.views id r.seat w ne ∙ r.at;
      home = r.home;
      alone = λ j u there is. ⊎_elim
          (λ (t : (j ≡ id) × (w ≡ u)). t.0 ∙ r.alone id v at (back (subst IsHome (sym t.1) is)))
          (λ (t : (j ≢ id) × (get_elem? s.views j ≡ some u)). r.alone j u t.1 is)
          (at_set s.views id j w u there);
      count = r.count;
      each = λ j u there unspent. ⊎_elim
          (λ (t : (j ≡ id) × (w ≡ u)). subst (SawOf r.view.list) t.1 (saw (ap (λ (x : View). x.spent) t.1 ∙ unspent)))
          (λ (t : (j ≢ id) × (get_elem? s.views j ≡ some u)). r.each j u t.1 unspent)
          (at_set s.views id j w u there);
    })

-- splitting off a seat
pub copies : (id : ℕ) (v : View) → Splits IsFresh id v (itself v) (copy_of v)
copies id v s r at =
    let same : set s.views id v ≡ s.views = set_again s.views id v at in
    let old = λ (j : ℕ) (u : View) (e : get_elem? (set s.views id v) j ≡ some u).
    ap (λ (vs : List View). get_elem? vs j) (sym same) ∙ e in record {
      seat = r.seat;
      view = r.view;
      at = at_longer (set s.views id v) (copy_of v ∷ []) r.seat r.view
          (ap (λ (vs : List View). get_elem? vs r.seat) same ∙ r.at);
      home = r.home;
      alone = λ j u there is. ⊎_elim (λ e. r.alone j u (old j u e) is)
          (λ (t : copy_of v ≡ u). absurd (not_both u.home (ap (λ (x : View). x.home) (sym t)) is.home))
          (at_snoc (set s.views id v) (copy_of v) u j there);
      count = r.count;
      each = λ j u there unspent. ⊎_elim (λ e. r.each j u (old j u e) unspent)
          (λ (t : copy_of v ≡ u). subst (SawOf r.view.list) t
          (record {
            list = (r.each id v at (ap (λ (x : View). x.spent) t ∙ unspent)).list;
            older = All-nil (λ (xs : List ℕ). IsPrefixOf xs r.view.list);
          }))
          (at_snoc (set s.views id v) (copy_of v) u j there);
    }

-- the home view with the list of another
home_saw : (history : List ℕ) (v w : View) → SawOf history v → SawOf history w → SawOf history (joined_home v w)
home_saw history v w a b = record {
  list = a.list;
  older = All-cons (λ (xs : List ℕ). IsPrefixOf xs history) w.list (w.older ++ v.older) b.list
      (All-append (λ (xs : List ℕ). IsPrefixOf xs history) w.older v.older b.older a.older);
}

-- any other view with the list of another
away_saw : (history : List ℕ) (v w : View) → SawOf history v → SawOf history w → SawOf history (joined_away v w)
away_saw history v w a b = record {
  list = longer_prefix v.list w.list history a.list b.list;
  older = All-cons (λ (xs : List ℕ). IsPrefixOf xs history) (shorter v.list w.list) (w.older ++ v.older)
      (shorter_prefix v.list w.list history a.list b.list)
      (All-append (λ (xs : List ℕ). IsPrefixOf xs history) w.older v.older b.older a.older);
}

pub joined_at_home : (v w : View) → v.home ≡ true → joined v w ≡ joined_home v w
joined_at_home v w is = ap (λ (b : Bool). cond b (joined_home v w) (joined_away v w)) is

pub joined_elsewhere : (v w : View) → v.home ≡ false → joined v w ≡ joined_away v w
joined_elsewhere v w is = ap (λ (b : Bool). cond b (joined_home v w) (joined_away v w)) is

-- joining a seat that isn't home, into a view that becomes `both`
joins_as : (id : ℕ) (v : View) (other : ℕ) (w both : View) → w.home ≡ false → w.spent ≡ false → both.home ≡ v.home
    → both.spent ≡ v.spent → (v.home ≡ true → both.list ≡ v.list)
    → ((history : List ℕ) → SawOf history v → SawOf history w → SawOf history both) → Joins IsFresh id v other w both spent_view
joins_as id v other w both away unspent home spent list saw s r at apart at' =
    let was : get_elem? s.views other ≡ some w = sym (set_else s.views id other both apart) ∙ at' in
    let first : IsFresh (record { words = s.words; homes = s.homes; views = set s.views id both }) =
    kept_set s r id v both at
    (λ is. record { home = sym home ∙ is.home; unspent = sym spent ∙ is.unspent })
    (λ is. (record { home = home ∙ is.home; unspent = spent ∙ is.unspent }, list is.home))
    (λ is. saw r.view.list (r.each id v at (sym spent ∙ is)) (r.each other w was unspent)) in
    kept_set (record { words = s.words; homes = s.homes; views = set s.views id both }) first other w spent_view at'
    (λ is. absurd (not_both true is.unspent refl))
    (λ is. absurd (not_both w.home away is.home))
    (λ is. absurd (not_both true is refl))

pub joins_home : (id : ℕ) (v : View) (other : ℕ) (w : View) → v.home ≡ true → w.home ≡ false → w.spent ≡ false
    → Joins IsFresh id v other w (joined v w) spent_view
joins_home id v other w is away unspent =
    subst (λ (both : View). Joins IsFresh id v other w both spent_view) (sym (joined_at_home v w is))
    (joins_as id v other w (joined_home v w) away unspent refl refl (λ _. refl) (λ history. home_saw history v w))

pub joins_away : (id : ℕ) (v : View) (other : ℕ) (w : View) → v.home ≡ false → w.home ≡ false → w.spent ≡ false
    → Joins IsFresh id v other w (joined v w) spent_view
joins_away id v other w isn't away unspent =
    subst (λ (both : View). Joins IsFresh id v other w both spent_view) (sym (joined_elsewhere v w isn't))
    (joins_as id v other w (joined_away v w) away unspent refl refl (λ is. absurd (not_both v.home isn't is))
    (λ history. away_saw history v w))

-- the load by the home seat
pub looks : (slots id : ℕ) (me : Seated) → IsHome me.0 → Allows IsFresh slots id me 0 (λ n. n) (looked (step slots 0 0 0 none) me)
looks slots id me is s r homes at low =
    let words : set s.words 0 (slice_index s.words 0) ≡ s.words = set-get_or s.words 0 0 in
    let views : set s.views id me.0 ≡ s.views = set_again s.views id me.0 at in
    let same : s ≡ stepped s 0 (slice_index s.words 0) id me.1 me.0 keeps =
    λ i. record { words = sym words i; homes = s.homes; views = sym views i } in
    let mine : me.0 ≡ r.view = (the_home s r id me.0 at is).1 in
    let list : r.view.list ≡ me.0.list = ap (λ (v : View). v.list) (sym mine) in (
      me.0,
      keeps,
      tt,
      subst IsFresh same r,
      record {
        view = refl;
        count = ap (λ (ws : List ℕ). slice_index ws 0) r.count ∙ ap length list;
        older = (saw_same r.view.list me.0.list me.0 list (r.each id me.0 at is.unspent)).older;
      },
    )

-- the addition by the home seat
pub appends : (caller slots id : ℕ) (me : Seated) → IsHome me.0 → length me.0.list + 1 < 2 ^ 32
    → Allows IsFresh slots id me 0 (λ n. (n + 1) % 2 ^ 64) (appended caller (step slots 0 1 0 none) me)
appends caller slots id me is few s r homes at low =
    let v : View = me.0 in
    let w : View = with_call v caller in
    let mine = the_home s r id v at is in
    let list : r.view.list ++ caller ∷ [] ≡ w.list = ap (λ (u : View). u.list ++ caller ∷ []) (sym mine.1) in
    let found : slice_index s.words 0 ≡ length v.list = ap (λ (ws : List ℕ). slice_index ws 0) r.count
    ∙ ap (λ (u : View). length u.list) (sym mine.1) in
    let more : (slice_index s.words 0 + 1) % 2 ^ 64 ≡ length w.list =
    let longer : length w.list ≡ length v.list + 1 = omega (arith, length-append v.list (caller ∷ [])) in
    let small : slice_index s.words 0 + 1 < 2 ^ 64 = omega (arith, found, few) in
    omega (arith, found, longer, small) in (
      w,
      keeps,
      tt,
      record {
        seat = id;
        view = w;
        at = set_at s.views id v w at;
        home = record { home = is.home; unspent = is.unspent };
        alone = λ j u there at_home. ⊎_elim (λ (t : (j ≡ id) × (w ≡ u)). t.0)
            (λ (t : (j ≢ id) × (get_elem? s.views j ≡ some u)). r.alone j u t.1 at_home ∙ sym mine.0)
            (at_set s.views id j w u there);
        count = ap (λ (ws : List ℕ). set ws 0 ((slice_index s.words 0 + 1) % 2 ^ 64)) r.count ∙ ap (λ (n : ℕ). n ∷ []) more;
        each = λ j u there unspent. ⊎_elim
            (λ (t : (j ≡ id) × (w ≡ u)). subst (SawOf w.list) t.1 (record {
              list = whole_prefix w.list;
              older = (saw_same (r.view.list ++ caller ∷ []) w.list v list
                  (saw_more r.view.list (caller ∷ []) v (r.each id v at is.unspent))).older;
            }))
            (λ (t : (j ≢ id) × (get_elem? s.views j ≡ some u)). saw_same (r.view.list ++ caller ∷ []) w.list u list
            (saw_more r.view.list (caller ∷ []) u (r.each j u t.1 unspent)))
            (at_set s.views id j w u there);
      },
      refl,
    )
  where
    saw_more : (history more : List ℕ) (v : View) → SawOf history v → SawOf (history ++ more) v
    saw_more history more v saw = record {
      list = still_prefix v.list history more saw.list;
      older = all_still v.older history more saw.older;
    }

-- the table at the start
pub opens : IsFresh (opening (0 ∷ []) [] first_view)
opens = record {
  seat = 0;
  view = first_view;
  at = refl;
  home = record { home = refl; unspent = refl };
  alone = λ j u e is. (one_at first_view u j e).0;
  count = refl;
  each = λ j u e unspent. subst (SawOf []) (one_at first_view u j e).1
      (record { list = none_prefix []; older = All-nil (λ (xs : List ℕ). IsPrefixOf xs []) });
}
