-- One hold of a lock of the lowest level.
use Rattle.std.proofs.Common.{◌≡◌, ℕ, List, [], ◌∷◌, ◌++◌, refl, ap, sym, ◌∙◌, arith, Option, Some}
use Rattle.lock_rules.specs.Tag.{Tag}
use Rattle.keep_local.specs.declared.turn.Turn.{Turn}
use Rattle.keep_local.specs.States.{TrailState, ShareState, callers_in, option_list, all_turns}
use Rattle.clof_compose.specs.Calls.{MayRelease, HasOpened}
use Rattle.clof_compose.specs.Contexts.{IsContextOf}
use Rattle.clof_compose.specs.Courses.{Course, course_of, course_tag}
use Rattle.clof_compose.specs.declared.root.Root.{Root}
use Rattle.clof_compose.proofs.Tops.{course_is}

callers_more : (turns : List Turn) (t : Turn) → callers_in (turns ++ t ∷ []) ≡ callers_in turns ++ t.caller ∷ []
callers_more [] t = refl
callers_more (x ∷ xs) t = λ i. x.caller ∷ callers_more xs t i

-- a holder that has made its one call may release
pub may_release_lowest : {P : Type 0} (calls : P → List ℕ) (tag : P
    → Tag) (t : Tag) (level number caller : ℕ) (share : ShareState) (r r₁ : Root P) → level ≡ 0 → HasOpened calls tag t level share r
    → IsContextOf (course_of t).shape 0 share.caller number → r₁.trail ≡ r.trail → tag r₁.payload ≡ tag r.payload
    → calls r₁.payload ≡ calls r.payload ++ caller ∷ [] → caller ≡ share.caller
    → MayRelease calls tag t level number r₁
may_release_lowest calls tag t level number caller share r r₁ lowest has context trail payload called is =
    let turn : Turn = has.is_open.turn in
    let now : r₁.trail.current ≡ Some turn = ap (λ (s : TrailState). s.current) trail ∙ has.is_open.now in
    let caller_is : caller ≡ turn.caller = is ∙ sym has.is_open.caller_is in
    let shape = ap (λ (c : Course). c.shape) (course_is calls tag t r has.tagged) in record {
      tagged = (λ i. course_tag (record {
        name = (trail i).name;
        receipts = (trail i).receipts;
        recorded = (trail i).recorded;
        shape = (trail i).shape;
        quotas = (trail i).quotas;
        payload = payload i;
      })) ∙ has.tagged;
      calls_are = called ∙ ap (λ (l : List ℕ). l ++ caller ∷ []) has.calls_are
          ∙ ap (λ (n : ℕ). callers_in r.trail.closed ++ n ∷ []) caller_is ∙ sym (callers_more r.trail.closed turn)
          ∙ sym (ap (λ (o : Option Turn). callers_in (r.trail.closed ++ option_list o)) has.is_open.now)
          ∙ sym (ap (λ (s : TrailState). callers_in (all_turns s)) trail);
      turn = turn;
      now = now;
      context = record {
        lowest = λ e. context.lowest refl ∙ sym has.is_open.caller_is;
        higher = λ k e. absurd (omega (arith, lowest, e));
      };
      noted = ap (λ (s : TrailState). s.noted) trail ∙ has.noted ∙ sym lowest;
      undue = λ j h. absurd (omega (arith, h, lowest));
    }
