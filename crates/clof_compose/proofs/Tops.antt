-- How the top lock's root is taken and put back.
use Rattle.std.proofs.Common.{◌≡◌, ℕ, ◌<◌, List, [], ◌∷◌, ◌++◌, length, map, refl, ap, sym, ◌∙◌, subst, Option, Some, None}
use Rattle.std.specs.Prelude.{IfSome, slice_get, option_map}
use Rattle.std.proofs.lemmas.Option.{slice_get-map}
use Rattle.lock_rules.specs.Tag.{Tag}
use Rattle.lock_rules.specs.Meanings.{Place}
use Rattle.lock_rules.specs.Passes.{AreAll as AreAllLow}
use Rattle.keep_local.specs.declared.turn.Turn.{Turn}
use Rattle.keep_local.specs.Shapes.{top_of, callers_of}
use Rattle.keep_local.specs.Turns.{Begins, last_turn}
use Rattle.keep_local.specs.States.{TrailState, IsTrail, MayLeave, option_list, callers_in, all_turns, opened, left_at}
use Rattle.clof_compose.specs.Courses.{Course, course_of}
use Rattle.clof_compose.specs.Roots.{root_course, root_tag, IsFit}
use Rattle.clof_compose.specs.Calls.{MayRelease}
use Rattle.clof_compose.specs.Passes.{AreAll, IsNumber}
use Rattle.clof_compose.specs.Tops.{IsOfTop, top_context, fresh_pass, AreFresh}
use Rattle.clof_compose.specs.declared.root.Root.{Root}
use Rattle.clof_compose.specs.declared.top_tokens.TopPass.{TopPass}
use Rattle.std.proofs.lemmas.List.Elements.{All-nil, All-cons}
use Rattle.clof_compose.proofs.Courses.{course_tag-tells}
use Rattle.clof_compose.proofs.Begun.{begins_at_top, leaves_at_top, last_push}

callers_push : (turns : List Turn) (t u : Turn) → t.caller ≡ u.caller → callers_in (turns ++ t ∷ []) ≡ callers_in (turns ++ u ∷ [])
callers_push [] t u e = λ i. e i ∷ []
callers_push (x ∷ xs) t u e = λ i. x.caller ∷ callers_push xs t u e i

module _ {P : Type 0} (calls : P → List ℕ) (tag : P → Tag) where
  -- the root of a lock has the course that the lock's tag names
  pub course_is : (t : Tag) (r : Root P) → root_tag tag r ≡ t → course_of t ≡ root_course tag r
  course_is t r e = course_tag-tells t (root_course tag r) e

  -- a turn begins at the top
  pub top_begins : (t : Tag) (r : Root P) (level caller : ℕ) → IsFit calls r → root_tag tag r ≡ t → level ≡ top_of (course_of t).shape
      → caller < callers_of (course_of t).shape
      → Begins r.trail.shape r.trail.closed (opened r.trail caller level)
  top_begins t r level caller fit tagged top known =
      let is = course_is t r tagged in
      let shape : (course_of t).shape ≡ r.trail.shape = ap (λ (c : Course). c.shape) is in
      let known' : caller < callers_of r.trail.shape = subst (λ s. caller < callers_of s) shape known in
      begins_at_top r.trail caller level (top ∙ ap top_of shape) fit.settled.trail fit.settled.closed fit.left known'

  -- what a turn becomes when it is closed keeps its caller
  pub calls_closed : (r : Root P) (turn : Turn) (level : ℕ) → r.trail.current ≡ Some turn → calls r.payload ≡ callers_in (all_turns r.trail)
      → calls r.payload ≡ callers_in (r.trail.closed ++ left_at turn level ∷ [])
  calls_closed r turn level now are =
      are ∙ ap (λ (o : Option Turn). callers_in (r.trail.closed ++ option_list o)) now
      ∙ callers_push r.trail.closed turn (left_at turn level) refl

  -- the closed turns with the one that is closed
  pub closed_is : (s s' : TrailState) (turn : Turn) (level : ℕ) → s.current ≡ Some turn
      → s' ≡ record s { closed = s.closed ++ option_list (option_map (λ t. left_at t level) s.current); current = None; noted = 0 }
      → s' ≡ record s { closed = s.closed ++ left_at turn level ∷ []; current = None; noted = 0 }
  closed_is s s' turn level now e = e ∙ ap (λ (o : Option Turn). record s {
    closed = s.closed ++ option_list (option_map (λ t. left_at t
        level) o);
    current = None;
    noted = 0;
  }) now

  module _ (t : Tag) (level number : ℕ) (r : Root P) (may : MayRelease calls tag t level number r) (top : level ≡ top_of (course_of
      t).shape) where
    top_is : level ≡ top_of r.trail.shape
    top_is = top ∙ ap (λ (c : Course). top_of c.shape) (course_is t r may.tagged)

    -- its turn may leave at the top
    pub top_may_leave : IfSome r.trail.current (MayLeave r.trail level)
    top_may_leave = subst (λ (o : Option Turn). IfSome o (MayLeave r.trail level)) (sym may.now) (leaves_at_top r.trail may.turn level
        top_is may.noted may.undue)

    -- and then the root may stand at home
    pub top_fits : (r' : Root P) → r'.payload ≡ r.payload
        → r'.trail ≡ record r.trail {
          closed = r.trail.closed ++ option_list (option_map (λ t. left_at t level) r.trail.current);
          current
              = None;
          noted = 0;
        } → IsTrail r'.trail → IsFit calls r'
    top_fits r' payload trail is =
        let u : Turn = left_at may.turn level in
        let now : r'.trail ≡ record r.trail { closed = r.trail.closed ++ u ∷ []; current = None; noted = 0 } = closed_is r.trail r'.trail
        may.turn level may.now trail in
        let closed : r'.trail.closed ≡ r.trail.closed ++ u ∷ [] = ap (λ (s : TrailState). s.closed) now in
        let shape : r'.trail.shape ≡ r.trail.shape = ap (λ (s : TrailState). s.shape) now in record {
          settled = record {
            trail = is;
            closed = ap (λ (s : TrailState). s.current) now;
            calls_are = ap calls payload ∙ calls_closed r may.turn level may.now may.calls_are ∙ sym (ap callers_in closed);
          };
          left = subst (λ (o : Option Turn). IfSome o (λ v. v.left ≡ top_of r'.trail.shape)) (sym (ap last_turn closed
              ∙ last_push r.trail.closed u)) (top_is ∙ sym (ap top_of shape));
        }

-- what a value is mapped to comes from a value
pub map_some : {A B : Type 0} (v : A → B) (o : Option A) (b : B) → option_map v o ≡ Some b → (a : A) × (o ≡ Some a) × (v a ≡ b)
map_some v None b e = absurd (cc)
map_some v (Some a) b e = (a, refl, cc)

-- all passes of the top lock have those of its basic lock
pub top_passes : {T L : Type 0} (low : T → L) (place : L → Place) (at : T
    → ℕ) (level count : ℕ) (name tag : Tag) (passes : List T) (lows : List L)
    → AreAll (λ p. top_context (at p) (place (low p))) (IsOfTop level name tag) level tag count passes → lows ≡ map low passes
    → length lows ≡ length passes → AreAllLow place name tag count lows
top_passes {T} {L} low place at level count name tag passes lows are e long = record {
  all = long ∙ are.all;
  each = λ k p here.
      let found = map_some low (slice_get passes k) p (sym (slice_get-map low passes k) ∙ sym (ap (λ (l : List L). slice_get l k) e)
      ∙ here) in
      let is = are.each k found.0 found.1 in
      let own = is.own.pass_is in
      sym (ap place found.2) ∙ (λ i. record { lock = own.lock_is i; tag = own.tag_is i; number = is.number_is i });
}

-- the passes of a top lock as it is made
pub fresh_passes : {L : Type 0} (place : L → Place) (level made count : ℕ) (name tag : Tag) (passes : List (TopPass L)) (lows : List L)
    → made ≡ count → AreAllLow place name tag made lows → passes ≡ map (fresh_pass level) lows → length passes ≡ length lows
    → AreAll (λ p. top_context p.level (place p.low)) (IsOfTop level name tag) level tag count passes
fresh_passes {L} place level made count name tag passes lows same are e long = record {
  all = long ∙ are.all ∙ same;
  each = λ k p here.
      let found = map_some (fresh_pass level) (slice_get lows k) p (sym (slice_get-map (fresh_pass level) lows k)
      ∙ sym (ap (λ (l : List (TopPass L)). slice_get l k) e) ∙ here) in
      let is = are.each k found.0 found.1 in
      let at : IsNumber (IsOfTop level name tag) level tag k (top_context level (place found.0)) = record {
        own = record { pass_is = record { lock_is = ap (λ q. q.lock) is; tag_is = ap (λ q. q.tag) is }; context_is = refl };
        level_is = refl;
        tag_is = ap (λ q. q.tag) is;
        number_is = ap (λ q. q.number) is;
      } in
      subst (λ (q : TopPass L). IsNumber (IsOfTop level name tag) level tag k (top_context q.level (place q.low))) found.2 at;
}

pub all_fresh : {L : Type 0} (level : ℕ) (lows : List L) → AreFresh (map (fresh_pass level) lows)
all_fresh {L} level [] = All-nil (λ (p : TopPass L). p.report.tests ≡ 0)
all_fresh {L} level (x ∷ xs) = All-cons (λ (p : TopPass L). p.report.tests ≡ 0) (fresh_pass level x) (map (fresh_pass level) xs) refl
    (all_fresh level xs)
