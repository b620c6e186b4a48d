-- What a caller has left before, in and behind a hold.
use Rattle.std.proofs.Common.{◌≡◌, ℕ, ◌+◌, ◌<◌, List, [], ◌∷◌, length, get_or, ap, sym, ◌∙◌, subst, arith, Some}
use Rattle.std.specs.Prelude.{slice_get}
use Rattle.std.proofs.lemmas.List.{append-nil}
use Rattle.std.proofs.lemmas.List.Elements.{All-nil}
use Rattle.std.proofs.lemmas.Option.{slice_get-get_or}
use Rattle.lock_rules.specs.Tag.{Tag}
use Rattle.keep_local.specs.States.{IsTrail, ShareState, TrailState}
use Rattle.keep_local.specs.declared.turn.Turn.{Turn}
use Rattle.keep_local.specs.declared.shape.Shape.{Shape}
use Rattle.clof_compose.specs.Calls.{HasOpened}
use Rattle.clof_compose.specs.Contexts.{Context, IsContextOf}
use Rattle.clof_compose.specs.Courses.{Course, course_of}
use Rattle.clof_compose.specs.Meanings.{Climb, Descent, Rest, Stand}
use Rattle.clof_compose.specs.Passes.{IsNumber}
use Rattle.clof_compose.specs.Roots.{IsKept}
use Rattle.clof_compose.specs.Shares.{IsShareIn}
use Rattle.clof_compose.specs.declared.root.Root.{Root}
use Rattle.clof_compose.proofs.Shares.{own_share}
use Rattle.mc_text.specs.Commands.{commands_left}
use Rattle.mc_text.specs.Request.{WholeCommand}
use Rattle.threaded_runner.specs.Books.{book_calls, book_tag}
use Rattle.threaded_runner.specs.declared.book.Book.{Book}
use Rattle.threaded_runner.specs.Jobs.{HasLeft, IsCommandAt, IsJob, IsServed}
use Rattle.threaded_runner.specs.declared.job.Job.{Job}
use Rattle.threaded_runner.proofs.Commands.{left_behind, next_command, not_empty}
use Rattle.walked_runner.specs.Walkers.{HasBegun, IsDone, IsWalker, Stands}
use Rattle.walked_runner.specs.declared.walker.State.{State}
use Rattle.walked_runner.specs.declared.walker.State.TheVariants.{Idle}
use Rattle.walked_runner.specs.declared.walker.Walker.{Walker}

-- a caller whose share has counted one turn more has begun it
pub begun : (payload : Tag) (s t : ShareState) (commands : List WholeCommand) → HasLeft payload s commands → s.made < s.quota
    → t ≡ record s { made = s.made + 1 } → HasBegun payload t commands
begun payload s t commands left some more =
    let quota = ap (λ (u : ShareState). u.quota) more in
    record {
      before = s.made;
      made = ap (λ (u : ShareState). u.made) more;
      within = omega (arith, some, quota);
      left = subst (λ (u : ShareState). HasLeft payload u commands) (sym (ap (λ (u : ShareState). record u { made = s.made }) more)) left;
    }

-- and it is the same caller's share
pub share_more : (course : Course) (number made : ℕ) (s t : ShareState) → IsShareIn course number s → t ≡ record s { made = made }
    → IsShareIn course number t
share_more course number made s t is same = record {
  own = ap (λ (u : ShareState). u.name) same ∙ is.own;
  caller_is = ap (λ (u : ShareState). u.caller) same ∙ is.caller_is;
  known = is.known;
  quota = ap (λ (u : ShareState). u.quota) same ∙ is.quota;
}

module _ (payload : Tag) (share : ShareState) (commands : List WholeCommand) (begun : HasBegun payload share commands) where
  before : ShareState
  before = record share { made = begun.before }

  -- the command of the turn is left
  pub one_left : commands ≡ [] → ⊥
  unfolding before
  one_left = not_empty payload before commands begun.left begun.within

  -- it is the one at the place of the turns made before
  pub turns_command : (command : WholeCommand) (behind : List WholeCommand) → commands ≡ command ∷ behind
      → IsCommandAt payload share.caller begun.before command
  unfolding before
  turns_command = next_command payload before commands begun.left

  -- once it is given, the others are left
  pub left_then : (command : WholeCommand) (behind : List WholeCommand) → commands ≡ command ∷ behind → HasLeft payload share behind
  unfolding before
  left_then command behind cut = subst (λ (n : ℕ). HasLeft payload (record share { made = n }) behind) (sym begun.made)
      (left_behind payload before commands begun.left command behind cut)

-- a holder that has changed the payload alone still stands
pub kept_trail : (tag : Tag) (level above : ℕ) (share : ShareState) (old new : Root Book) → HasOpened book_calls book_tag tag level share
    old → new.trail ≡ old.trail → IsKept book_calls above old new
kept_trail tag level above share old new opened same = record {
  name = ap (λ (s : TrailState). s.name) same;
  receipts = ap (λ (s : TrailState). s.receipts) same;
  recorded = ap (λ (s : TrailState). s.recorded) same;
  shape = ap (λ (s : TrailState). s.shape) same;
  quotas = ap (λ (s : TrailState). s.quotas) same;
  more = [];
  closed = ap (λ (s : TrailState). s.closed) same ∙ sym (append-nil old.trail.closed);
  lower = All-nil (λ (t : Turn). t.left < above);
  in_hand = record {
    trail = subst IsTrail (sym same) opened.trail;
    settled = λ none. let now = sym none ∙ ap (λ (s : TrailState). s.current) same ∙ opened.is_open.now in absurd (cc);
  };
}

-- the context that a caller stands under at the lowest level
pub lowest_context : (shape : Shape) (caller number : ℕ) → number ≡ caller → IsContextOf shape 0 caller number
lowest_context shape caller number is = record { lowest = λ e. is; higher = λ j e. absurd (omega (arith, e)) }

module _ {P Q H L : Type 0} (rest : P → Rest) (climb : Q → Climb) (climbs : Q → Type 0) (stand : H → Stand (Root Book))
    (stands : H → Type 0) (descent : L → Descent) (descends : L → Type 0) (has : Context → Type 0) (level : ℕ) (tag : Tag) where
  -- the caller of a job, idle
  pub seated : (k : ℕ) (j : Job P) (w : Walker P Q H L) → IsJob rest has level tag k j → w.state ≡ Idle j.pass → w.task.share ≡ j.share
      → commands_left w.task.commands ≡ commands_left j.commands
      → IsWalker rest climb climbs stand stands descent descends has level tag k w
  seated k j w is state share commands =
      let caller : k ≡ w.task.share.caller = sym is.share_is.caller_is ∙ sym (ap (λ (s : ShareState). s.caller) share) in
      let left = subst (λ (s : ShareState). HasLeft (course_of tag).payload s (commands_left w.task.commands)) (sym share)
      (subst (HasLeft (course_of tag).payload j.share) (sym commands) is.left_is) in
      record {
        share_is = subst (IsShareIn (course_of tag) k) (sym share) is.share_is;
        stands_is = subst (λ (s : State P Q H L). Stands rest climb climbs stand stands descent descends has level tag s w.task) (sym state)
            (subst (λ (n : ℕ). IsNumber has level tag n (rest j.pass).context) caller is.pass_is, left);
      }

  -- the job of a caller that is done
  pub risen : (k : ℕ) (w : Walker P Q H L) (p : P) → IsWalker rest climb climbs stand stands descent descends has level tag k w → IsDone w
      → w.state ≡ Idle p
      → IsServed rest has level tag k (record {
        pass = p;
        share = w.task.share;
        commands = w.task.commands;
        stopped = w.task.stopped;
      })
  risen k w p is done state =
      let stands_at = subst (λ (s : State P Q H L). Stands rest climb climbs stand stands descent descends has level tag s w.task) state
      is.stands_is in
      record {
        pass_is = subst (λ (n : ℕ). IsNumber has level tag n (rest p).context) is.share_is.caller_is stands_at.0;
        share_is = is.share_is;
        made = done.made;
      }

  module _ (ws : List (Walker P Q H L)) (n : ℕ) (many : length ws ≡ n) (each : (k : ℕ) (w : Walker P Q H L) → slice_get ws k ≡ Some w
      → IsWalker rest climb climbs stand stands descent descends has level tag k w) (k : ℕ) (d : Walker P Q H L) (within : k < n) where
    here : IsWalker rest climb climbs stand stands descent descends has level tag k (get_or ws k d)
    here = each k _ (slice_get-get_or ws k d (omega (arith, many, within)))

    -- each caller of a list has its share
    pub shares_at : IsShareIn (course_of tag) (get_or ws k d).task.share.caller (get_or ws k d).task.share
    shares_at = own_share _ _ _ here.share_is

    -- and it stands
    pub stands_at : Stands rest climb climbs stand stands descent descends has level tag (get_or ws k d).state (get_or ws k d).task
    stands_at = here.stands_is
