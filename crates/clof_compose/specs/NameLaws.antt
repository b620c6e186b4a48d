-- A lock's name has the basic lock of each of its tokens.
use Rattle.std.proofs.Common.{◌≡◌, ℕ, zero, suc, ◌<◌, List, [], ◌∷◌, length, Some, refl, ap, sym, subst, arith}
use Rattle.std.specs.Prelude.{map, slice_get}
use Rattle.std.proofs.lemmas.List.{length-map}
use Rattle.lock_rules.specs.Tag.{Tag}
use Rattle.lock_rules.specs.Meanings.{Place}
use Rattle.clof_compose.specs.Contexts.{Context}
use Rattle.clof_compose.specs.Names.{Name, IsNamed, top_name, level_name}
use Rattle.clof_compose.specs.Nodes.{IsLevel, IsOfLevel, locks_of}
use Rattle.clof_compose.specs.Tops.{IsOfTop}
use Rattle.clof_compose.specs.declared.node.Node.{Node}

name_at : {B : Type 0} (name : B → Tag) (locks : List B) (k : ℕ) (found : Tag) → k < length locks
    → ((lock : B) → slice_get locks k ≡ Some lock → found ≡ name lock) → slice_get (map name locks) k ≡ Some found
name_at name [] k found within is = absurd (omega (arith, within))
name_at name (b ∷ bs) zero found within is = ap Some (sym (is b refl))
name_at name (b ∷ bs) (suc k) found within is = name_at name bs k found (omega (arith, within)) is

pub top_named : (level : ℕ) (name tag : Tag) (c : Context) → IsOfTop level name tag c → IsNamed (top_name level name) c
top_named level name tag c own = record {
  level_is = ap (λ (x : Context). x.level) own.context_is;
  lock_is = subst (λ (n : ℕ). slice_get (name ∷ []) n ≡ Some c.pass.lock) (sym (ap (λ (x : Context). x.node) own.context_is)) (ap Some (sym
      own.pass_is.lock_is));
}

module _ {B L HL : Type 0} {name tag : B → Tag} {count : B → ℕ} {place : L → Place} {has : Context → Type 0} {sound : Type 0}
    {high_level high_count : ℕ} {t : Tag} {level keep : ℕ} {parents : List ℕ} {nodes : List (Node B L)}
    {list : List HL} {capacity : ℕ} where
  pub level_named : (high : Name) (c : Context)
      → IsLevel name tag count place has sound high_level high_count t level keep parents nodes list capacity
      → IsOfLevel name tag level parents (locks_of nodes) c → IsNamed (level_name level (map name (locks_of nodes)) high) c
  level_named high c is own =
      let many = length-map nodes (λ (n : Node B L). n.lock) in
      let within = subst (λ (n : ℕ). c.node < n) (sym many) (is.parents_are c.number c.node own.node_is) in record {
        level_is = ap (λ (x : Context). x.level) own.context_is;
        lock_is = name_at name (locks_of nodes) c.node c.pass.lock within (λ lock here. (own.pass_is lock here).lock_is);
      }
