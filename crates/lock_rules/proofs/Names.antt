-- The name of a lock tells its algorithm and its table.
use Rattle.std.proofs.Common.{◌≡◌, ℕ, List, [], ◌∷◌, ap, ◌∙◌, arith}
use Rattle.atomic_table.specs.Seated.{TableId}
use Rattle.lock_rules.specs.Passes.{IsOf}
use Rattle.lock_rules.specs.Tag.{Tag}
use Rattle.lock_rules.specs.Views.{algorithm_number, waiters_number, tree_of, lock_name, place_of, mark_by, mark_of}
use Rattle.lock_rules.specs.declared.view.Algorithm.{Algorithm}
use Rattle.lock_rules.specs.declared.view.Algorithm.TheVariants.{Ticket, Mcs, Clh, Hemlock}
use Rattle.lock_rules.specs.declared.view.View.{View}
use Rattle.lock_rules.specs.declared.view.Waiters.{Waiters}
use Rattle.lock_rules.specs.declared.view.Waiters.TheVariants.{Queue, Count}

tree_of-tells : (xs ys : List ℕ) → tree_of xs ≡ tree_of ys → xs ≡ ys
tree_of-tells [] [] e = cc
tree_of-tells [] (y ∷ ys) e = cc
tree_of-tells (x ∷ xs) [] e = cc
tree_of-tells (x ∷ xs) (y ∷ ys) e = let t : tree_of xs ≡ tree_of ys = cc in let h : x ≡ y = cc in λ i. h i ∷ tree_of-tells xs ys t i

algorithm-tells : (a b : Algorithm) → algorithm_number a ≡ algorithm_number b → a ≡ b
algorithm-tells Ticket Ticket e = cc
algorithm-tells Mcs Mcs e = cc
algorithm-tells Clh Clh e = cc
algorithm-tells Hemlock Hemlock e = cc
algorithm-tells Ticket Mcs e = absurd (omega arith)
algorithm-tells Ticket Clh e = absurd (omega arith)
algorithm-tells Ticket Hemlock e = absurd (omega arith)
algorithm-tells Mcs Ticket e = absurd (omega arith)
algorithm-tells Mcs Clh e = absurd (omega arith)
algorithm-tells Mcs Hemlock e = absurd (omega arith)
algorithm-tells Clh Ticket e = absurd (omega arith)
algorithm-tells Clh Mcs e = absurd (omega arith)
algorithm-tells Clh Hemlock e = absurd (omega arith)
algorithm-tells Hemlock Ticket e = absurd (omega arith)
algorithm-tells Hemlock Mcs e = absurd (omega arith)
algorithm-tells Hemlock Clh e = absurd (omega arith)

waiters-tell : (a b : Waiters) → waiters_number a ≡ waiters_number b → a ≡ b
waiters-tell Queue Queue e = cc
waiters-tell Count Count e = cc
waiters-tell Queue Count e = absurd (omega arith)
waiters-tell Count Queue e = absurd (omega arith)

fields : TableId → List ℕ
fields z = z.words ∷ z.slots ∷ z.views_name ∷ z.atom ∷ z.block ∷ z.offset ∷ z.slot_names

fields-tell : (y z : TableId) → fields y ≡ fields z → y ≡ z
unfolding fields
fields-tell y z e =
    let w : y.words ≡ z.words = cc in
    let s : y.slots ≡ z.slots = cc in
    let v : y.views_name ≡ z.views_name = cc in
    let a : y.atom ≡ z.atom = cc in
    let b : y.block ≡ z.block = cc in
    let o : y.offset ≡ z.offset = cc in
    let n : y.slot_names ≡ z.slot_names = cc in
    λ i. record { words = w i; slots = s i; views_name = v i; atom = a i; block = b i; offset = o i; slot_names = n i }

pub lock_name-tells : (a b : Algorithm) (c d : Waiters) (y z : TableId) → lock_name a c y ≡ lock_name b d z
    → (a ≡ b) × (c ≡ d) × (y ≡ z)
unfolding lock_name fields
lock_name-tells a b c d y z e =
    let n : algorithm_number a ≡ algorithm_number b = cc in
    let m : waiters_number c ≡ waiters_number d = cc in
    let t : tree_of (fields y) ≡ tree_of (fields z) = cc in
    (algorithm-tells a b n, waiters-tell c d m, fields-tell y z (tree_of-tells (fields y) (fields z) t))

-- a token of a lock has a seat of its table, and a view of its algorithm and of how it learns of waiters
module _ (a : Algorithm) (c : Waiters) (z : TableId) (tag : Tag) (y : TableId) (v : View)
    (own : IsOf (lock_name a c z) tag (place_of y v)) where
  pub own_table : y ≡ z
  own_table = (lock_name-tells v.algorithm a v.waiters c y z own.lock_is).2

  pub own_algorithm : v.algorithm ≡ a
  own_algorithm = (lock_name-tells v.algorithm a v.waiters c y z own.lock_is).0

  pub own_waiters : v.waiters ≡ c
  own_waiters = (lock_name-tells v.algorithm a v.waiters c y z own.lock_is).1

  pub own_mark : (w : View) → w.algorithm ≡ v.algorithm → mark_of w ≡ mark_by a w
  own_mark w e = let f = own_algorithm in ap (λ (x : Algorithm). mark_by x w) (e ∙ f)
