-- How a turn begins and ends at a level of a composed lock.
use Rattle.std.proofs.Common.{◌≡◌, ℕ, ◌+◌, ◌-◌, ◌<◌, List, [], ◌∷◌, ◌++◌, length, get_or, refl, ap, sym, ◌∙◌}
use Rattle.std.proofs.Common.{subst, arith, length-append, Option, Some, None}
use Rattle.std.specs.Prelude.{All, IfSome, slice_get}
use Rattle.std.specs.Option.{option_map_or}
use Rattle.std.proofs.lemmas.List.{append-nil}
use Rattle.std.proofs.lemmas.Option.{slice_get_within, get_or_from_slice_get}
use Rattle.std.proofs.lemmas.List.Elements.{All-get_or}
use Rattle.keep_local.specs.declared.shape.Shape.{Shape}
use Rattle.keep_local.specs.declared.turn.Turn.{Turn}
use Rattle.keep_local.specs.Shapes.{top_of, callers_of, node_of}
use Rattle.keep_local.specs.Turns.{last_turn, Begins, IsDue, AreUnderOneNode}
use Rattle.keep_local.specs.States.{TrailState, IsTrail, MayLeave, option_list, opened}

abbrev blank : Turn
blank = record { caller = 0; climb = 0; tests = 0; left = 0 }

-- what holds of all turns holds of the last one
pub all_last : (P : Turn → Type 0) (turns : List Turn) (t : Turn) → last_turn turns ≡ Some t → All P turns → P t
all_last P turns t e all =
    let within : length turns - 1 < length turns = slice_get_within turns (length turns - 1) t e in
    let is : get_or turns (length turns - 1) blank ≡ t = get_or_from_slice_get turns (length turns - 1) t blank e in
    subst P is (All-get_or P turns (length turns - 1) blank within all)

get_push : (turns : List Turn) (t : Turn) → slice_get (turns ++ t ∷ []) (length turns) ≡ Some t
get_push [] t = refl
get_push (x ∷ xs) t = get_push xs t

-- the last of some turns and one more
pub last_push : (turns : List Turn) (t : Turn) → last_turn (turns ++ t ∷ []) ≡ Some t
last_push turns t =
    let long : length (turns ++ t ∷ []) - 1 ≡ length turns = omega (arith, length-append turns (t ∷ [])) in
    ap (slice_get (turns ++ t ∷ [])) long ∙ get_push turns t

-- the callers of the closed turns of a trail are in its shape
closed_known : (s : TrailState) → IsTrail s → s.current ≡ None → All (λ t. t.caller < callers_of s.shape) s.closed
closed_known s is closed =
    let all : All (λ t. t.caller < callers_of s.shape) (s.closed ++ []) = subst (λ (o : Option Turn). All (λ t. t.caller < callers_of
    s.shape) (s.closed ++ option_list o)) closed is.known in
    subst (All (λ t. t.caller < callers_of s.shape)) (append-nil s.closed) all

climb_is : (o : Option Turn) (level top : ℕ) → IfSome o (λ t. t.left ≡ level) → (o ≡ None → level ≡ top)
    → level ≡ option_map_or (λ t. t.left) o top
climb_is None level top h none = none refl
climb_is (Some t) level top h none = sym h

near_is : (shape : Shape) (t : Turn) (o : Option Turn) → ((last : Turn) → o ≡ Some last → AreUnderOneNode shape t.climb t last)
    → IfSome o (λ last. AreUnderOneNode shape t.climb t last)
near_is shape t None h = tt
near_is shape t (Some last) h = h last refl

-- a turn begins at the top
pub begins_at_top : (s : TrailState) (caller top : ℕ) → top ≡ top_of s.shape → IsTrail s → s.current ≡ None
    → IfSome (last_turn s.closed) (λ t. t.left ≡ top_of s.shape) → caller < callers_of s.shape
    → Begins s.shape s.closed (opened s caller top)
begins_at_top s caller top at is closed left known = record {
  climb = at ∙ climb_is (last_turn s.closed) (top_of s.shape) (top_of s.shape) left (λ e. refl);
  near = near_is s.shape (opened s caller top) (last_turn s.closed) (λ last e.
      let last_known : last.caller < callers_of s.shape = all_last (λ t. t.caller < callers_of s.shape) s.closed last e (closed_known s
      is closed) in
      ap (node_of s.shape caller) at ∙ is.shaped.one_top caller known ∙ sym (ap (node_of s.shape last.caller) at
      ∙ is.shaped.one_top last.caller last_known));
}

-- a turn begins at a level where the last one left, for a caller under the same node
pub begins_at : (s : TrailState) (caller level : ℕ) (last : Turn) → last_turn s.closed ≡ Some last → last.left ≡ level
    → node_of s.shape caller level ≡ node_of s.shape last.caller level
    → Begins s.shape s.closed (opened s caller level)
begins_at s caller level last is left near = record {
  climb = sym left ∙ sym (ap (λ (o : Option Turn). option_map_or (λ t. t.left) o (top_of s.shape)) is);
  near = subst (λ (o : Option Turn). IfSome o (λ t. AreUnderOneNode s.shape level (opened s caller level) t)) (sym is) near;
}

-- an open turn may leave at the top where every level below was noted and none is due
pub leaves_at_top : (s : TrailState) (t : Turn) (level : ℕ) → level ≡ top_of s.shape → s.noted ≡ level → ((j : ℕ) → j < level
    → ¬ IsDue s.shape s.closed t.tests j) → MayLeave s level t
leaves_at_top s t level at noted undue = record {
  noted = omega (arith, noted, at);
  left = record { within = omega (arith, at); due = λ h. absurd (omega (arith, at, h)); least = undue };
}

-- an open turn may leave at the first level that is due
pub leaves_at_level : (s : TrailState) (t : Turn) (level : ℕ) → level < top_of s.shape → s.noted ≡ level + 1
    → IsDue s.shape s.closed t.tests level
    → ((j : ℕ) → j < level → ¬ IsDue s.shape s.closed t.tests j) → MayLeave s level t
leaves_at_level s t level below noted due undue = record {
  noted = omega (arith, noted, below);
  left = record { within = omega (arith, below); due = λ h. due; least = undue };
}
