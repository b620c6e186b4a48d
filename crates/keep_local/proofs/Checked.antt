-- What the plain checker computes is what the definitions say.
use Rattle.std.proofs.Common.{◌≡◌, ℕ, zero, suc, ◌+◌, ◌<◌, List, [], ◌∷◌, ◌++◌, length, take, get_or, ap, sym, ◌∙◌, subst, arith, Option}
use Rattle.std.proofs.Common.{Some, None}
use Rattle.std.specs.Prelude.{IfSome}
use Rattle.std.specs.Option.{option_map_or}
use Rattle.std.proofs.lemmas.List.{take_more, append-nil, append_assoc}
use Rattle.keep_local.specs.declared.shape.Shape.{Shape}
use Rattle.keep_local.specs.declared.turn.Turn.{Turn}
use Rattle.keep_local.specs.Shapes.{top_of}
use Rattle.keep_local.specs.Turns.{last_turn, AreUnderOneNode, Begins, Follows, FollowEachOther, IsLawful}
use Rattle.keep_local.proofs.Runs.{lawful_push}

-- without a turn before it
pub climb_first : (shape : Shape) (before : List Turn) (t : Turn) → last_turn before ≡ None → Begins shape before t → t.climb ≡ top_of shape
climb_first shape before t e is = is.climb ∙ ap (λ (o : Option Turn). option_map_or (λ (u : Turn). u.left) o (top_of shape)) e

pub begins_first : (shape : Shape) (before : List Turn) (t : Turn) → last_turn before ≡ None → t.climb ≡ top_of shape
    → Begins shape before t
begins_first shape before t e climb = record {
  climb = climb ∙ ap (λ (o : Option Turn). option_map_or (λ (u : Turn). u.left) o (top_of shape)) (sym e);
  near = subst (λ (o : Option Turn). IfSome o (λ u. AreUnderOneNode shape t.climb t u)) (sym e) tt;
}

-- behind a last turn
pub climb_behind : (shape : Shape) (before : List Turn) (t last : Turn) → last_turn before ≡ Some last → Begins shape before t
    → t.climb ≡ last.left
climb_behind shape before t last e is = is.climb ∙ ap (λ (o : Option Turn). option_map_or (λ (u : Turn). u.left) o (top_of shape)) e

pub near_behind : (shape : Shape) (before : List Turn) (t last : Turn) → last_turn before ≡ Some last → Begins shape before t
    → AreUnderOneNode shape t.climb t last
near_behind shape before t last e is = subst (λ (o : Option Turn). IfSome o (λ u. AreUnderOneNode shape t.climb t u)) e is.near

pub begins_behind : (shape : Shape) (before : List Turn) (t last : Turn) → last_turn before ≡ Some last → t.climb ≡ last.left
    → AreUnderOneNode shape t.climb t last → Begins shape before t
begins_behind shape before t last e climb near = record {
  climb = climb ∙ ap (λ (o : Option Turn). option_map_or (λ (u : Turn). u.left) o (top_of shape)) (sym e);
  near = subst (λ (o : Option Turn). IfSome o (λ u. AreUnderOneNode shape t.climb t u)) (sym e) near;
}

-- a lawful list has one more turn where it follows, and each of its turns follows those before it
pub lawful_more : (shape : Shape) (turns : List Turn) (i : ℕ) (d : Turn) → i < length turns → IsLawful shape (take i turns)
    → Follows shape (take i turns) (get_or turns i d) → IsLawful shape (take (i + 1) turns)
lawful_more shape turns i d h lawful follows =
    subst (IsLawful shape) (sym (take_more turns i d h)) (lawful_push shape (take i turns) (get_or turns i d) lawful follows)

follows_at : (shape : Shape) (before turns : List Turn) (i : ℕ) (d : Turn) → i < length turns → FollowEachOther shape before turns
    → Follows shape (before ++ take i turns) (get_or turns i d)
follows_at shape before [] i d h all = absurd (omega arith)
follows_at shape before (t ∷ ts) zero d h all = subst (λ (b : List Turn). Follows shape b t) (sym (append-nil before)) all.0
follows_at shape before (t ∷ ts) (suc i) d h all =
    subst (λ (b : List Turn). Follows shape b (get_or ts i d)) (append_assoc before (t ∷ []) (take i ts))
    (follows_at shape (before ++ t ∷ []) ts i d (omega arith) all.1)

pub lawful_at : (shape : Shape) (turns : List Turn) (i : ℕ) (d : Turn) → i < length turns → IsLawful shape turns
    → Follows shape (take i turns) (get_or turns i d)
lawful_at shape turns i d h lawful = follows_at shape [] turns i d h lawful

-- how a turn may begin is told by the last turn alone
pub begins_alike : (shape : Shape) (before before' : List Turn) (t : Turn) → last_turn before ≡ last_turn before' → Begins shape before t
    → Begins shape before' t
begins_alike shape before before' t e is = record {
  climb = is.climb ∙ ap (λ (o : Option Turn). option_map_or (λ (u : Turn). u.left) o (top_of shape)) e;
  near = subst (λ (o : Option Turn). IfSome o (λ last. AreUnderOneNode shape t.climb t last)) e is.near;
}
