-- How the lists of a level's nodes are filled and emptied.
use Rattle.std.proofs.Common.{◌≡◌, ◌≢◌, ℕ, zero, suc, ◌+◌, ◌<◌, ◌≤◌, ◌⊎◌, inl, inr, ⊎_elim, List, [], ◌∷◌, ◌++◌, length}
use Rattle.std.proofs.Common.{drop, reverse, get_or, set, eqb, eq-eqb, refl, ap, sym, ◌∙◌, subst, arith, cond, Some, vec_capacity}
use Rattle.std.proofs.Common.{length-append, add-zero, zero-add}
use Rattle.std.specs.Prelude.{All, slice_get, option_map}
use Rattle.std.proofs.lemmas.List.Elements.{All-nil, All-cons, All-append}
use Rattle.std.specs.List.{count_by}
use Rattle.std.proofs.Math.Seq.{take-length, map-set_same}
use Rattle.std.proofs.lemmas.Bool.{ne_eqb}
use Rattle.std.proofs.lemmas.List.{reverse-append, length-map, map-append}
use Rattle.std.proofs.lemmas.List.Sums.{count_by_more_no, count_by_more_yes, sum_by-take-le}
use Rattle.std.proofs.lemmas.Option.{slice_get_within, get_or_from_slice_get, slice_get-map}
use mathlib.Core.Logic.{dite}
use native.Mathlib.Decide.{ℕ_discrete}
use Rattle.lock_rules.specs.Tag.{Tag}
use Rattle.lock_rules.specs.Meanings.{Place}
use Rattle.lock_rules.specs.Passes.{AreAll as AreAllLow}
use Rattle.lock_rules.proofs.Passes.{one_more, one_less}
use Rattle.clof_compose.specs.Contexts.{Context, own_tag, root_tag_in}
use Rattle.clof_compose.proofs.Contexts.{own_tag-tells, root_tag_in-own_tag}
use Rattle.clof_compose.specs.Levels.{level_context}
use Rattle.clof_compose.specs.Nodes.{AreFilled, AreFull, AreLocks, AreMade, FallsTo, IsFilled, IsGiven, IsLockOf, IsOfLevel, locks_of}
use Rattle.clof_compose.specs.Nodes.{under}
use Rattle.clof_compose.specs.Passes.{AreAll, AreFrom, IsNumber}
use Rattle.clof_compose.specs.declared.level_tokens.LevelPass.{LevelPass}
use Rattle.clof_compose.specs.declared.node.Node.{Node}
use Rattle.clof_compose.proofs.Nodes.{get_within}

drop_cons : {A : Type 0} (xs : List A) (k : ℕ) (x : A) (rest : List A) → drop k xs ≡ x ∷ rest → (slice_get xs k ≡ Some x)
    × (drop (k + 1) xs ≡ rest)
drop_cons [] zero x rest e = absurd (cc)
drop_cons [] (suc k) x rest e = absurd (cc)
drop_cons (y ∷ ys) zero x rest e = (let h : y ≡ x = cc in ap Some h, cc)
drop_cons (y ∷ ys) (suc k) x rest e =
    let tail = drop_cons ys k x rest e in
    let one : suc k + 1 ≡ suc (k + 1) = omega arith in
    (tail.0, ap (λ n. drop n (y ∷ ys)) one ∙ tail.1)

-- what is left of a list is its end, last one first: the next one is taken off its end
pub next_left : {A : Type 0} (xs : List A) (k : ℕ) (left rest : List A) (x : A) → drop k xs ≡ reverse left → left ≡ rest ++ x ∷ []
    → (slice_get xs k ≡ Some x) × (drop (k + 1) xs ≡ reverse rest)
next_left xs k left rest x e cut = drop_cons xs k x (reverse rest) (e ∙ ap reverse cut ∙ reverse-append rest (x ∷ []))

under_yes : (parents : List ℕ) (k m : ℕ) → slice_get parents k ≡ Some m → under parents m (k + 1) ≡ under parents m k + 1
under_yes parents k m e = count_by_more_yes (λ p. eqb p m) parents k 0 (slice_get_within parents k m e) (eq-eqb (get_or parents k 0) m
    (get_or_from_slice_get parents k m 0 e))

under_no : (parents : List ℕ) (k m n : ℕ) → slice_get parents k ≡ Some m → m ≢ n → under parents n (k + 1) ≡ under parents n k
under_no parents k m n e other = count_by_more_no (λ p. eqb p n) parents k 0 (slice_get_within parents k m e) (ne_eqb (get_or parents k 0)
    n (λ h. other (sym (get_or_from_slice_get parents k m 0 e) ∙ h)))

pub under_all : (parents : List ℕ) (n k : ℕ) → under parents n k ≤ under parents n (length parents)
under_all parents n k = subst (λ (l : List ℕ). under parents n k ≤ count_by (λ p. eqb p n) l) (sym (take-length parents)) (sum_by-take-le
    (λ p. cond (eqb p n) 1 0) parents k)

set_here : {A : Type 0} (xs : List A) (i : ℕ) (x y : A) → slice_get xs i ≡ Some x → slice_get (set xs i y) i ≡ Some y
set_here [] zero x y e = absurd (cc)
set_here [] (suc i) x y e = absurd (cc)
set_here (z ∷ zs) zero x y e = refl
set_here (z ∷ zs) (suc i) x y e = set_here zs i x y e

set_other : {A : Type 0} (xs : List A) (i j : ℕ) (y : A) → j ≢ i → slice_get (set xs i y) j ≡ slice_get xs j
set_other [] zero j y other = refl
set_other [] (suc i) j y other = refl
set_other (z ∷ zs) zero zero y other = absurd (other refl)
set_other (z ∷ zs) zero (suc j) y other = refl
set_other (z ∷ zs) (suc i) zero y other = refl
set_other (z ∷ zs) (suc i) (suc j) y other = set_other zs i j y (λ e. other (ap suc e))

pub lock_here : {B L : Type 0} (nodes : List (Node B L)) (k : ℕ) (node : Node B L) → slice_get nodes k ≡ Some node
    → slice_get (locks_of nodes) k ≡ Some node.lock
lock_here {B} {L} nodes k node e = slice_get-map (λ (n : Node B L). n.lock) nodes k ∙ ap (option_map (λ (n : Node B L). n.lock)) e

pub as_many : {B L : Type 0} (nodes nodes' : List (Node B L)) → locks_of nodes ≡ locks_of nodes' → length nodes ≡ length nodes'
as_many {B} {L} nodes nodes' e =
    sym (length-map nodes (λ (n : Node B L). n.lock)) ∙ ap length e ∙ length-map nodes' (λ (n : Node B L). n.lock)

module _ {B L : Type 0} {name tag : B → Tag} {count : B → ℕ} {place : L → Place} where
  -- a list with the passes of all contexts has all passes of its node's lock
  pub full : (parents : List ℕ) (nodes : List (Node B L)) → AreFilled name tag count place parents (length parents) nodes
      → AreFull name tag count place nodes
  full parents nodes are n node here =
      let is = are n node here in
      subst (λ (k : ℕ). AreAllLow place (name node.lock) (tag node.lock) k node.list.items) (sym is.count_is) is.lows

  -- the list of the node over the context k has room for one more pass, and gets it
  module _ (parents : List ℕ) (k : ℕ) (nodes : List (Node B L)) (m : ℕ) (at : slice_get parents k ≡ Some m) (node : Node B L)
      (here : slice_get nodes m ≡ Some node) (are : AreFilled name tag count place parents k nodes) where
    pub has_room : length node.list.items < vec_capacity node.list
    has_room =
        let is = are m node here in
        let all = is.lows.all in
        let counted = is.count_is in
        let room = is.room in
        let one = under_yes parents k m at in
        let most = under_all parents m (k + 1) in
        omega (arith, all, counted, room, one, most)

    module _ (low : L) (falls : place low ≡ record { lock = name node.lock; tag = tag node.lock; number = under parents m k })
        (node' : Node B L) (same : node'.lock ≡ node.lock) (items : node'.list.items ≡ node.list.items ++ low ∷ [])
        (capacity : vec_capacity node'.list ≡ vec_capacity node.list) where
      more : IsFilled name tag count place parents (k + 1) m node'
      more =
          let is = are m node here in record {
            count_is = ap count same ∙ is.count_is;
            lows = subst (λ (b : B). AreAllLow place (name b) (tag b) (under parents m (k + 1)) node'.list.items) (sym same)
                (subst (λ (l : List L). AreAllLow place (name node.lock) (tag node.lock) (under parents m (k + 1)) l) (sym items)
                (one_more place (name node.lock) (tag node.lock) (under parents m k) (under parents m (k + 1)) node.list.items low (sym
                (under_yes parents k m at)) is.lows falls));
            room = let c = ap count same in let r = is.room in omega (arith, c, r, capacity);
          }

      pub filled_more : AreFilled name tag count place parents (k + 1) (set nodes m node')
      filled_more n x got = dite (ℕ_discrete n m)
          (λ e.
          let x_is : Some node' ≡ Some x = sym (set_here nodes m node node' here) ∙ ap (slice_get (set nodes m node')) (sym e) ∙ got in
          let is : node' ≡ x = cc in
          subst (λ (y : Node B L). IsFilled name tag count place parents (k + 1) n y) is
          (subst (λ (j : ℕ). IsFilled name tag count place parents (k + 1) j node') (sym e) more))
          (λ other.
          let is = are n x (sym (set_other nodes m n node' other) ∙ got) in record {
            count_is = is.count_is;
            lows = subst (λ (j : ℕ). AreAllLow place (name x.lock) (tag x.lock) j x.list.items) (sym (under_no parents k m n at (λ e.
                other (sym e)))) is.lows;
            room = is.room;
          })

      pub locks_same : locks_of (set nodes m node') ≡ locks_of nodes
      locks_same = map-set_same (λ (n : Node B L). n.lock) nodes m node' node (same ∙ ap (λ (n : Node B L). n.lock) (sym
          (get_or_from_slice_get nodes m node node here)))

pub get_longer : {A : Type 0} (l m : List A) (k : ℕ) (a : A) → slice_get l k ≡ Some a → slice_get (l ++ m) k ≡ Some a
get_longer [] m k a e = absurd (cc)
get_longer (x ∷ xs) m zero a e = e
get_longer (x ∷ xs) m (suc k) a e = get_longer xs m k a e

pub get_last : {A : Type 0} (l : List A) (a : A) → slice_get (l ++ a ∷ []) (length l) ≡ Some a
get_last [] a = refl
get_last (x ∷ xs) a = get_last xs a

pub length_more : {A : Type 0} (l longer : List A) (a : A) → longer ≡ l ++ a ∷ [] → length longer ≡ length l + 1
length_more l longer a e = ap length e ∙ length-append l (a ∷ [])

-- what holds of each of a list of nodes holds of each of its front
pub front_locks : {B L : Type 0} (tag : B → Tag) (has : Context → Type 0) (level : ℕ) (t : Tag) (nodes front : List (Node B L))
    (node : Node B L) → nodes ≡ front ++ node ∷ [] → AreLocks tag has level t (locks_of nodes) → AreLocks tag has level t (locks_of front)
front_locks {B} {L} tag has level t nodes front node cut are n lock here =
    let longer = get_longer (locks_of front) (node.lock ∷ []) n lock here in
    let same : locks_of nodes ≡ locks_of front ++ node.lock ∷ [] = ap locks_of cut ∙ map-append (λ (m : Node B L). m.lock) front (node ∷
    []) in
    are n lock (ap (λ (l : List B). slice_get l n) same ∙ longer)

before_cases : {P : Type 0} (Q : ℕ → P → Type 0) (before first : ℕ) (passes : List P) (p : P) → first ≡ before + 1 → Q before p
    → ((k : ℕ) (q : P) → slice_get passes k ≡ Some q → Q (first + k) q) → (k : ℕ) (q : P) → slice_get (p ∷ passes) k ≡ Some q
    → Q (before + k) q
before_cases {P} Q before first passes p next is are zero q e =
    let same : p ≡ q = cc in subst (λ (x : P). Q (before + zero) x) same (subst (λ (n : ℕ). Q n p) (sym (add-zero before)) is)
before_cases Q before first passes p next is are (suc k) q e = subst (λ (n : ℕ). Q n q) (omega (arith, next)) (are k q e)

-- a list that grows at its end, read from there: one more before the others
pub one_before : {P : Type 0} (Q : ℕ → P → Type 0) (before first : ℕ) (passes longer : List P) (p : P) → first ≡ before + 1
    → longer ≡ passes ++ p ∷ [] → Q before p → ((k : ℕ) (q : P) → slice_get (reverse passes) k ≡ Some q → Q (first + k) q) → (k : ℕ)
    (q : P) → slice_get (reverse longer) k ≡ Some q → Q (before + k) q
one_before {P} Q before first passes longer p next cut is are k q e =
    let turned : reverse longer ≡ p ∷ reverse passes = ap reverse cut ∙ reverse-append passes (p ∷ []) in
    before_cases Q before first (reverse passes) p next is are k q (ap (λ (l : List P). slice_get l k) (sym turned) ∙ e)

module _ {P : Type 0} (context : P → Context) (has : Context → Type 0) (level : ℕ) (t : Tag) where
  -- the pass before others, and the others behind it
  pub first_of : (first : ℕ) (passes rest : List P) (p : P) → passes ≡ rest ++ p ∷ [] → AreFrom context has level t first (reverse passes)
      → IsNumber has level t first (context p) × AreFrom context has level t (first + 1) (reverse rest)
  first_of first passes rest p cut are =
      let turned : reverse passes ≡ p ∷ reverse rest = ap reverse cut ∙ reverse-append rest (p ∷ []) in (
        subst (λ (n : ℕ). IsNumber has level t n (context p)) (add-zero first) (are 0 p (ap (λ (l : List P). slice_get l 0) turned)),
        λ k q e. subst (λ (n : ℕ). IsNumber has level t n (context q)) (omega arith) (are (suc k) q (ap (λ (l : List P). slice_get l (suc
            k)) turned ∙ e)),
      )

  pub from_none : (passes : List P) (count : ℕ) → length passes ≡ count → AreFrom context has level t 0 passes
      → AreAll context has level t count passes
  from_none passes count all are = record {
    all = all;
    each = λ k p e. subst (λ (n : ℕ). IsNumber has level t n (context p)) (zero-add k) (are k p e);
  }

-- the context that the tag of a node's lock tells is that of the node
pub told_number : {B : Type 0} (tag : B → Tag) (has : Context → Type 0) (high_level : ℕ) (t : Tag) (locks : List B) (k : ℕ) (lock : B)
    (m : ℕ) (d : Context) → AreLocks tag has high_level t locks → slice_get locks k ≡ Some lock → own_tag m d ≡ tag lock
    → IsNumber has high_level t k d
told_number tag has high_level t locks k lock m d are here told =
    let is = are k lock here in
    let same = own_tag-tells m k d is.context (told ∙ is.tag_is) in
    subst (λ (x : Context). IsNumber has high_level t k x) (sym same.1) is.is

get_end : {A : Type 0} (l : List A) (a b : A) (k : ℕ) → slice_get (l ++ a ∷ []) k ≡ Some b → (slice_get l k ≡ Some b) ⊎ ((k ≡ length l)
    × (a ≡ b))
get_end [] a b zero e = inr (refl, cc)
get_end [] a b (suc k) e = absurd (cc)
get_end (x ∷ xs) a b zero e = inl e
get_end (x ∷ xs) a b (suc k) e = ⊎_elim (λ h. inl h) (λ (h : (k ≡ length xs) × (a ≡ b)). inr (ap suc h.0, h.1)) (get_end xs a b k e)

-- one node more
pub locks_more : {B L : Type 0} (tag : B → Tag) (has : Context → Type 0) (level : ℕ) (t : Tag) (nodes longer : List (Node B L))
    (node : Node B L) → longer ≡ nodes ++ node ∷ [] → AreLocks tag has level t (locks_of nodes)
    → IsLockOf tag has level t (length nodes) node.lock → AreLocks tag has level t (locks_of longer)
locks_more {B} {L} tag has level t nodes longer node cut are is n lock here =
    let same : locks_of longer ≡ locks_of nodes ++ node.lock ∷ [] = ap locks_of cut ∙ map-append (λ (m : Node B L). m.lock) nodes (node ∷
    []) in
    ⊎_elim (λ (h : slice_get (locks_of nodes) n ≡ Some lock). are n lock h)
    (λ (h : (n ≡ length (locks_of nodes)) × (node.lock ≡ lock)). subst (λ (b : B). IsLockOf tag has level t n b) h.1 (subst (λ (k : ℕ).
    IsLockOf tag has level t k node.lock) (sym (h.0 ∙ length-map nodes (λ (m : Node B L). m.lock))) is))
    (get_end (locks_of nodes) node.lock lock n (ap (λ (l : List B). slice_get l n) (sym same) ∙ here))

pub made_more : {B L R : Type 0} (made : B → R → Type 0) (recipe : R) (nodes longer : List (Node B L)) (node : Node B L)
    → longer ≡ nodes ++ node ∷ [] → AreMade made recipe nodes → made node.lock recipe → AreMade made recipe longer
made_more {B} {L} made recipe nodes longer node cut are is =
    let Q : B → Type 0 = λ lock. made lock recipe in
    let same : locks_of longer ≡ locks_of nodes ++ node.lock ∷ [] = ap locks_of cut ∙ map-append (λ (m : Node B L). m.lock) nodes (node ∷
    []) in
    subst (λ (l : List B). All Q l) (sym same) (All-append Q (locks_of nodes) (node.lock ∷ []) are (All-cons Q node.lock [] is (All-nil Q)))

pub filled_longer : {B L : Type 0} (name tag : B → Tag) (count : B → ℕ) (place : L → Place) (parents : List ℕ) (k : ℕ)
    (nodes longer : List (Node B L)) (node : Node B L) → longer ≡ nodes ++ node ∷ [] → AreFilled name tag count place parents k nodes
    → IsFilled name tag count place parents k (length nodes) node → AreFilled name tag count place parents k longer
filled_longer {B} {L} name tag count place parents k nodes longer node cut are is n x here =
    ⊎_elim (λ (h : slice_get nodes n ≡ Some x). are n x h)
    (λ (h : (n ≡ length nodes) × (node ≡ x)). subst (λ (y : Node B L). IsFilled name tag count place parents k n y) h.1 (subst (λ (j : ℕ).
    IsFilled name tag count place parents k j node) (sym h.0) is))
    (get_end nodes node x n (ap (λ (l : List (Node B L)). slice_get l n) (sym cut) ∙ here))

pub from_all : {P : Type 0} (context : P → Context) (has : Context → Type 0) (level : ℕ) (t : Tag) (count first : ℕ)
    (passes turned : List P) → AreAll context has level t count passes → first ≡ 0 → turned ≡ passes
    → AreFrom context has level t first turned
from_all {P} context has level t count first passes turned are none e k p here =
    subst (λ (n : ℕ). IsNumber has level t n (context p)) (omega (arith, none)) (are.each k p (ap (λ (l : List P). slice_get l k) (sym e)
    ∙ here))

pub all_each : {P : Type 0} (Q : P → Type 0) (l : List P) → ((k : ℕ) (p : P) → slice_get l k ≡ Some p → Q p) → All Q l
all_each Q [] f = All-nil Q
all_each Q (x ∷ xs) f = All-cons Q x xs (f 0 x refl) (all_each Q xs (λ k p e. f (suc k) p e))

pub under_some : (parents : List ℕ) (k n : ℕ) → slice_get parents k ≡ Some n → 0 < under parents n (length parents)
under_some parents k n e =
    let one = under_yes parents k n e in
    let most = under_all parents n (k + 1) in
    omega (arith, one, most)

-- the place of the one context that a pass falls to
pub falls_one : {B : Type 0} (name tag : B → Tag) (parents : List ℕ) (locks : List B) (k m : ℕ) (b : B) (place : Place)
    → slice_get parents k ≡ Some m → slice_get locks m ≡ Some b
    → place ≡ record { lock = name b; tag = tag b; number = under parents m k } → FallsTo name tag parents locks k place
falls_one {B} name tag parents locks k m b place at here is n lock e f =
    let same : m ≡ n = (let h : Some m ≡ Some n = sym at ∙ e in cc) in
    let locked : b ≡ lock = (let h : Some b ≡ Some lock = sym here ∙ ap (slice_get locks) same ∙ f in cc) in
    is ∙ (λ i. record { lock = name (locked i); tag = tag (locked i); number = under parents (same i) k })

module _ {B L : Type 0} {name tag : B → Tag} {count : B → ℕ} {place : L → Place} (parents : List ℕ) (k : ℕ) (nodes : List (Node B L))
    (m : ℕ) (at : slice_get parents k ≡ Some m) (node : Node B L) (here : slice_get nodes m ≡ Some node)
    (are : AreFilled name tag count place parents (k + 1) nodes) where
  -- the list of the node over the context k has a pass
  pub not_empty : 0 < length node.list.items
  not_empty =
      let is = are m node here in
      let all = is.lows.all in
      let one = under_yes parents k m at in
      omega (arith, all, one)

  -- and gives up its last one, which falls to that context
  module _ (low : L) (node' : Node B L) (same : node'.lock ≡ node.lock) (cut : node.list.items ≡ node'.list.items ++ low ∷ [])
      (capacity : vec_capacity node'.list ≡ vec_capacity node.list) where
    fewer : AreAllLow place (name node.lock) (tag node.lock) (length node'.list.items) node'.list.items
        × (place low ≡ record { lock = name node.lock; tag = tag node.lock; number = length node'.list.items })
        × (under parents m (k + 1) ≡ length node'.list.items + 1)
    fewer = one_less place (name node.lock) (tag node.lock) (under parents m (k + 1)) node.list.items node'.list.items low cut (are m node
        here).lows

    left_is : length node'.list.items ≡ under parents m k
    left_is = let one = under_yes parents k m at in let f = fewer.2 in omega (arith, one, f)

    pub falls_low : place low ≡ record { lock = name node.lock; tag = tag node.lock; number = under parents m k }
    falls_low = fewer.1 ∙ ap (λ (n : ℕ). record { lock = name node.lock; tag = tag node.lock; number = n }) left_is

    less : IsFilled name tag count place parents k m node'
    less =
        let is = are m node here in record {
          count_is = ap count same ∙ is.count_is;
          lows = subst (λ (b : B). AreAllLow place (name b) (tag b) (under parents m k) node'.list.items) (sym same) (subst (λ (n : ℕ).
              AreAllLow place (name node.lock) (tag node.lock) n node'.list.items) left_is fewer.0);
          room = let c = ap count same in let r = is.room in omega (arith, c, r, capacity);
        }

    pub filled_less : AreFilled name tag count place parents k (set nodes m node')
    filled_less n x got = dite (ℕ_discrete n m)
        (λ e.
        let x_is : Some node' ≡ Some x = sym (set_here nodes m node node' here) ∙ ap (slice_get (set nodes m node')) (sym e) ∙ got in
        let is : node' ≡ x = cc in
        subst (λ (y : Node B L). IsFilled name tag count place parents k n y) is (subst (λ (j : ℕ). IsFilled name tag count place parents
        k j node') (sym e) less))
        (λ other.
        let is = are n x (sym (set_other nodes m n node' other) ∙ got) in record {
          count_is = is.count_is;
          lows = subst (λ (j : ℕ). AreAllLow place (name x.lock) (tag x.lock) j x.list.items) (under_no parents k m n at (λ e. other (sym
              e))) is.lows;
          room = is.room;
        })

    pub locks_less : locks_of (set nodes m node') ≡ locks_of nodes
    locks_less = map-set_same (λ (n : Node B L). n.lock) nodes m node' node (same ∙ ap (λ (n : Node B L). n.lock) (sym
        (get_or_from_slice_get nodes m node node here)))

-- passes as they are made are all passes of the level
pub given_all : {B L : Type 0} (name tag : B → Tag) (place : L → Place) (has : Context → Type 0) (high_level : ℕ) (t : Tag) (level : ℕ)
    (parents : List ℕ) (nodes : List (Node B L)) (passes : List (LevelPass L))
    → ((k n : ℕ) → slice_get parents k ≡ Some n → n < length nodes) → AreLocks tag has high_level t (locks_of nodes)
    → length passes ≡ length parents
    → ((k : ℕ) (p : LevelPass L) → slice_get passes k ≡ Some p → IsGiven name tag place level parents (locks_of nodes) k p)
    → AreAll (λ p. level_context p.id.level p.id.node p.id.number (place p.low)) (IsOfLevel name tag level parents (locks_of nodes)) level t
    (length parents) passes
given_all {B} {L} name tag place has high_level t level parents nodes passes within locks all given = record {
  all = all;
  each = λ k p here.
      let is = given k p here in
      let there = within k p.id.node is.node_is in
      let lock = get_within (locks_of nodes) p.id.node (subst (λ (n : ℕ). p.id.node < n) (sym (length-map nodes (λ (n : Node B L). n.lock)))
      there) in
      let falls = is.falls p.id.node lock.0 is.node_is lock.1 in
      let of = locks p.id.node lock.0 lock.1 in record {
        own = record {
          context_is = ap (λ (l : ℕ). level_context l p.id.node p.id.number (place p.low)) is.level_is;
          node_is = ap (slice_get parents) is.number_is ∙ is.node_is;
          pass_is = λ b h. let f = is.falls p.id.node b is.node_is h in record { lock_is = ap (λ q. q.lock) f; tag_is = ap (λ q. q.tag) f };
          number_is = ap (λ q. q.number) falls ∙ ap (under parents p.id.node) (sym is.number_is);
        };
        level_is = is.level_is;
        tag_is = ap root_tag_in (ap (λ q. q.tag) falls ∙ of.tag_is) ∙ root_tag_in-own_tag p.id.node of.context ∙ of.is.tag_is;
        number_is = is.number_is;
      };
}
