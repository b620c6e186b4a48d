-- What each call of a trail did, from what its parts say.
use Rattle.std.proofs.Common.{◌≡◌, ℕ, ◌+◌, ◌-◌, ◌^◌, ◌<◌, ◌≤◌, Bool, true, false, cond, List, [], ◌∷◌, ◌++◌, length, set, slice_index}
use Rattle.std.proofs.Common.{refl, ap, sym, ◌∙◌, subst, arith, length-append, Option, Some, None, Vec, Global, ⊎_elim}
use Rattle.std.specs.Prelude.{IfSome, min, option_map, sum, replicate, vec_capacity, ◌⊎◌}
use Rattle.std.proofs.lemmas.List.{length-replicate, get_or-replicate, append-nil}
use Rattle.std.proofs.lemmas.List.Elements.{All-nil}
use Rattle.keep_local.specs.declared.turn.Turn.{Turn}
use Rattle.keep_local.specs.declared.trail.Log.{Log}
use Rattle.keep_local.specs.Shapes.{IsWellFormed, top_of, callers_of}
use Rattle.keep_local.specs.Turns.{run, last_turn, Begins}
use Rattle.keep_local.specs.States.{TrailState, NotesState, ShareState, TieState, IsCounted, IsShareOf, IsTrail, MayLeave, option_list}
use Rattle.keep_local.specs.States.{callers_in, all_turns, new_notes, new_trail, opened, tested, left_at}
use Rattle.keep_local.specs.Trails.{log_state, IsKept}
use Rattle.keep_local.proofs.Counts.{times_own}
use Rattle.keep_local.proofs.Trails.{trail_opened, trail_noted, trail_left}
use Rattle.keep_local.proofs.Runs.{run_none, run_above, run-le-length}
use Rattle.keep_local.proofs.Lawful.{run_within}
use Rattle.keep_local.proofs.Logs.{share_is, length-callers, callers_push, all_closed, last_push, kept_push, kept_set, runs_raised}
use Rattle.keep_local.proofs.Logs.{AreRaised}

-- a log that is kept, with this state
pub record HasState (l : Log) (s : TrailState) : Type 0 where
  pub kept : IsKept l
  pub state : log_state l ≡ s

-- the log that a pointer leads to
pub as_held : (v l : Log) (s : TrailState) → l ≡ v → IsKept v → log_state v ≡ s → HasState l s
as_held v l s e kept state = record { kept = subst IsKept (sym e) kept; state = ap log_state e ∙ state }

-- the trail that a kept log stands for
pub lawful_of : (l : Log) (s : TrailState) → IsKept l → log_state l ≡ s → IsTrail s
lawful_of l s kept state = subst IsTrail state kept.trail

-- a share that was just counted once more
counted_again : (tie : TieState) (share : ShareState) → IsCounted tie share
    → IsCounted (record tie { callers = tie.callers ++ share.caller ∷ [] }) (record share { made = share.made + 1 })
counted_again tie share told = record {
  own = told.own;
  known = told.known;
  quota = told.quota;
  made = let a = times_own share.caller tie.callers share.caller 1 refl in let b = told.made in omega (arith, a, b);
}

-- the log after a turn was opened
abbrev pub with_open : Log → TieState → Turn → Vec Turn Global → Log
with_open l tie t turns = record l { tie = tie; current = Some t; turns = turns }

-- a turn was opened
pub turn_opened : (l : Log) (s : TrailState) (share share' : ShareState) (climb : ℕ) (tie : TieState) (turns : Vec Turn Global) (t : Turn)
    → HasState l s → s.current ≡ None → Begins s.shape s.closed (opened s share.caller climb)
    → IsCounted l.tie share → length l.tie.callers + 1 ≤ sum l.tie.quotas
    → tie ≡ record l.tie { callers = l.tie.callers ++ share.caller ∷ [] } → share' ≡ record share { made = share.made + 1 }
    → t ≡ record { caller = share'.caller; climb = climb; tests = 0; left = top_of l.shape }
    → turns.items ≡ cond l.recorded (l.turns.items ++ t ∷ []) l.turns.items → vec_capacity turns ≡ vec_capacity l.turns
    → HasState (with_open l tie t turns) (record s { current = Some (opened s share.caller climb) })
    × IsShareOf (log_state (with_open l tie t turns)) share'
turn_opened l s share share' climb tie turns t has free begins told room tie_is share_made t_is items capacity =
    let z : TrailState = log_state l in
    let kept = has.kept in
    let back : s ≡ z = sym has.state in
    let none : l.current ≡ None = ap (λ (x : TrailState). x.current) has.state ∙ free in
    let u : Turn = opened z share.caller climb in
    let turn_is : t ≡ u = t_is
    ∙ (λ i. record { caller = (ap (λ (x : ShareState). x.caller) share_made) i; climb = climb; tests = 0; left = top_of l.shape }) in
    let l' : Log = with_open l tie t turns in
    let all : all_turns z ≡ z.closed = all_closed z.closed l.current none in
    let state : log_state l' ≡ record z { current = Some u } = λ i. record z {
      name = (tie_is i).name;
      quotas = (tie_is i).quotas;
      current = Some (turn_is i);
    } in
    let begins' : Begins z.shape z.closed u =
    subst (λ (x : TrailState). Begins x.shape x.closed (opened x share.caller climb)) back begins in
    let quotas = kept.trail.quotas in
    let known = told.known in
    let many = ap length kept.callers ∙ length-callers (all_turns z) in
    let trail : IsTrail (record z { current = Some u }) = trail_opened z share.caller climb kept.trail none (omega (arith, known, quotas))
    (omega (arith, many, room)) begins' in
    let kept' : IsKept l' = record {
      trail = subst IsTrail (sym state) trail;
      callers = ap (λ (x : TieState). x.callers) tie_is ∙ ap (λ (cs : List ℕ). cs ++ share.caller ∷ []) (kept.callers ∙ ap callers_in all)
          ∙ sym (callers_push z.closed u) ∙ ap (λ (x : Turn). callers_in (z.closed ++ x ∷ [])) (sym turn_is);
      turns = items ∙ ap (λ (ts : List Turn). cond l.recorded (ts ++ t ∷ []) ts) kept.turns ∙ kept_push l.recorded (all_turns z) t
          ∙ ap (λ (ts : List Turn). cond l.recorded (ts ++ t ∷ []) []) all;
      room = λ is. let a = ap (λ (x : TieState). sum x.quotas) tie_is in let b = kept.room is in omega (arith, a, b, capacity);
      last = kept.last;
      counters = kept.counters;
      runs = kept.runs;
    } in
    let counted : IsCounted tie share' =
    subst (λ (x : TieState × ShareState). IsCounted x.0 x.1) (λ i. (sym tie_is i, sym share_made i))
    (counted_again l.tie share told) in (
      record {
        kept = kept';
        state = state ∙ ap (λ (x : TrailState). record x { current = Some (opened x share.caller climb) }) has.state;
      },
      share_is l' share' kept' counted,
    )

-- there is room for a turn that may be opened
pub room_for : (l : Log) (s : TrailState) → HasState l s → length l.tie.callers + 1 ≤ sum l.tie.quotas → l.recorded ≡ true
    → length l.turns.items < vec_capacity l.turns
room_for l s has room is =
    let kept = has.kept in
    let many = ap length kept.callers ∙ length-callers (all_turns (log_state l)) in
    let held : length l.turns.items ≡ length (all_turns (log_state l)) = ap length kept.turns
    ∙ ap (λ (b : Bool). length (cond b (all_turns (log_state l)) [])) is in
    let fits = kept.room is in
    omega (arith, many, held, fits, room)

-- the open turn is replaced by another of the same caller
abbrev pub with_current : Log → Turn → Vec Turn Global → ℕ → Log
with_current l t turns noted = record l { current = Some t; turns = turns; noted = noted }

-- a level was noted
pub level_noted : (l : Log) (s : TrailState) (t u : Turn) (level : ℕ) (queued : Bool) (turns : Vec Turn Global) → HasState l s
    → l.current ≡ Some t → level ≡ s.noted → level < top_of s.shape → u ≡ tested t level queued
    → turns.items ≡ set l.turns.items (length l.turns.items - 1) u → vec_capacity turns ≡ vec_capacity l.turns
    → HasState (with_current l u turns (level + 1))
    (record s { current = option_map (λ x. tested x level queued) s.current; noted = level + 1 })
level_noted l s t u level queued turns has now next below u_is items capacity =
    let z : TrailState = log_state l in
    let kept = has.kept in
    let next' : level ≡ z.noted = next ∙ ap (λ (x : TrailState). x.noted) (sym has.state) in
    let below' : level < top_of z.shape = subst (λ (x : TrailState). level < top_of x.shape) (sym has.state) below in
    let l' : Log = with_current l u turns (level + 1) in
    let v : Turn = tested t level queued in
    let state : log_state l' ≡ record z { current = Some v; noted = level + 1 } =
    λ i. record z { current = Some (u_is i); noted = level + 1 } in
    let all : all_turns z ≡ z.closed ++ t ∷ [] = ap (λ (o : Option Turn). z.closed ++ option_list o) now in
    let same : u.caller ≡ t.caller = ap (λ (x : Turn). x.caller) u_is in
    let current : s.current ≡ Some t = ap (λ (x : TrailState). x.current) (sym has.state) ∙ now in
    record {
      kept = record {
        trail = subst IsTrail (sym state) (trail_noted z t level queued kept.trail now next' below');
        callers = kept.callers ∙ ap callers_in all ∙ callers_push z.closed t
            ∙ ap (λ (k : ℕ). callers_in z.closed ++ k ∷ []) (sym same) ∙ sym (callers_push z.closed u);
        turns = items ∙ ap (λ (ts : List Turn). set ts (length ts - 1) u)
            (kept.turns ∙ ap (λ (ts : List Turn). cond l.recorded ts []) all) ∙ kept_set l.recorded z.closed t u;
        room = λ is. let b = kept.room is in omega (arith, b, capacity);
        last = kept.last;
        counters = kept.counters;
        runs = kept.runs;
      };
      state = state ∙ (λ i. record (has.state i) {
        current = option_map (λ x. tested x level queued) (sym current i);
        noted = level + 1;
      });
    }

-- the log after a turn was closed
abbrev pub with_closed : Log → NotesState → Turn → Vec Turn Global → List ℕ → Log
with_closed l given u turns runs =
    record l { receipts = given; turns = turns; current = None; last = Some u; noted = 0; runs = runs }

-- the turn was closed
pub turn_left : (l : Log) (s : TrailState) (t u : Turn) (level : ℕ) (turns : Vec Turn Global) (runs : List ℕ) (given : NotesState)
    → HasState l s → l.current ≡ Some t → IfSome s.current (MayLeave s level) → u ≡ left_at t level
    → given ≡ record l.receipts { turns = l.receipts.turns ++ u ∷ [] }
    → turns.items ≡ set l.turns.items (length l.turns.items - 1) u → vec_capacity turns ≡ vec_capacity l.turns
    → length runs ≡ length l.runs → AreRaised l.runs runs level
    → HasState (with_closed l given u turns runs)
    (record s { closed = s.closed ++ option_list (option_map (λ x. left_at x level) s.current); current = None; noted = 0 })
turn_left l s t u level turns runs given has now may u_is given_is items capacity counters raised =
    let z : TrailState = log_state l in
    let kept = has.kept in
    let current : s.current ≡ Some t = ap (λ (x : TrailState). x.current) (sym has.state) ∙ now in
    let may' : MayLeave z level t =
    subst (λ (x : TrailState). MayLeave x level t) (sym has.state)
    (subst (λ (o : Option Turn). IfSome o (MayLeave s level)) current may) in
    let v : Turn = left_at t level in
    let l' : Log = with_closed l given u turns runs in
    let state : log_state l' ≡ record z { closed = z.closed ++ v ∷ []; current = None; noted = 0 } = λ i. record z {
      receipts = (given_is i).name;
      closed = (ap (λ (x : NotesState). x.turns) given_is ∙ ap (λ (x : Turn). l.receipts.turns ++ x ∷ []) u_is) i;
      current = None;
      noted = 0;
    } in
    let all : all_turns z ≡ z.closed ++ t ∷ [] = ap (λ (o : Option Turn). z.closed ++ option_list o) now in
    let after : given.turns ≡ z.closed ++ u ∷ [] = ap (λ (x : NotesState). x.turns) given_is in
    let all' : all_turns (log_state l') ≡ z.closed ++ u ∷ [] = append-nil given.turns ∙ after in
    let same : u.caller ≡ t.caller = ap (λ (x : Turn). x.caller) u_is in
    record {
      kept = record {
        trail = subst IsTrail (sym state) (trail_left z t level kept.trail now may');
        callers = kept.callers ∙ ap callers_in all ∙ callers_push z.closed t
            ∙ ap (λ (k : ℕ). callers_in z.closed ++ k ∷ []) (sym same) ∙ sym (callers_push z.closed u) ∙ ap callers_in (sym all');
        turns = items ∙ ap (λ (ts : List Turn). set ts (length ts - 1) u)
            (kept.turns ∙ ap (λ (ts : List Turn). cond l.recorded ts []) all) ∙ kept_set l.recorded z.closed t u
            ∙ ap (λ (ts : List Turn). cond l.recorded ts []) (sym all');
        room = λ is. let b = kept.room is in omega (arith, b, capacity);
        last = sym (ap last_turn after ∙ last_push z.closed u);
        counters = counters ∙ kept.counters;
        runs = λ k h. runs_raised l.runs runs level z.closed u (ap (λ (x : Turn). x.left) u_is) raised kept.runs k h
            ∙ ap (λ (ts : List Turn). min (run k ts) (2 ^ 32 - 1)) (sym after);
      };
      state = state ∙ (λ i. record (has.state i) {
        closed = (has.state i).closed ++ option_list (option_map (λ x. left_at x level) (sym current i));
        current = None;
        noted = 0;
      });
    }

-- what a level to leave at says of it
pub left_within : (l : Log) (s : TrailState) (t : Turn) (level : ℕ) → HasState l s → l.current ≡ Some t
    → IfSome s.current (MayLeave s level) → level < 33
left_within l s t level has now may =
    let current : s.current ≡ Some t = ap (λ (x : TrailState). x.current) (sym has.state) ∙ now in
    let may' : MayLeave s level t = subst (λ (o : Option Turn). IfSome o (MayLeave s level)) current may in
    let within = may'.left.within in
    let same = ap (λ (x : TrailState). top_of x.shape) has.state in
    let levels = has.kept.trail.shaped.levels in
    omega (arith, within, same, levels)

same_either : (b : Bool) (ts : List Turn) → ts ≡ cond b ts ts
same_either true ts = refl
same_either false ts = refl

-- a log before its first turn
pub log_new : (l : Log) → IsWellFormed l.shape → callers_of l.shape < 2 ^ 32
    → ((level : ℕ) → slice_index l.shape.keeps level < 2 ^ 32) → length l.tie.quotas ≡ callers_of l.shape
    → sum l.tie.quotas < 2 ^ 64 → (l.recorded ≡ true → sum l.tie.quotas < 2 ^ 32) → l.tie.callers ≡ []
    → l.receipts ≡ new_notes l.receipts.name → l.turns.items ≡ [] → l.current ≡ None → l.last ≡ None → l.noted ≡ 0
    → (l.recorded ≡ true → sum l.tie.quotas ≤ vec_capacity l.turns) → l.runs ≡ replicate 33 0
    → HasState l (record (new_trail l.tie.name l.receipts.name l.shape l.tie.quotas) { recorded = l.recorded })
log_new l shaped few countable quotas fits recordable callers given turns current last noted room runs =
    let s : TrailState = record (new_trail l.tie.name l.receipts.name l.shape l.tie.quotas) { recorded = l.recorded } in
    let none : l.receipts.turns ≡ [] = ap (λ (x : NotesState). x.turns) given in
    let state : log_state l ≡ s = λ i. record s { closed = none i; current = current i; noted = noted i } in
    let trail : IsTrail s = record {
      shaped = shaped;
      few = few;
      countable = countable;
      quotas = quotas;
      fits = fits;
      recordable = recordable;
      lawful = (tt, tt);
      noting = tt;
      closed = refl;
      room = omega arith;
      known = All-nil (λ (t : Turn). t.caller < callers_of l.shape);
    } in
    let all : all_turns (log_state l) ≡ [] = λ i. none i ++ option_list (current i) in record {
      kept = record {
        trail = subst IsTrail (sym state) trail;
        callers = callers ∙ ap callers_in (sym all);
        turns = turns ∙ same_either l.recorded [] ∙ ap (λ (ts : List Turn). cond l.recorded ts []) (sym all);
        room = room;
        last = last ∙ ap last_turn (sym none);
        counters = ap length runs ∙ length-replicate {A = ℕ} 33 0;
        runs = λ level h. ap (λ (rs : List ℕ). slice_index rs level) runs ∙ get_or-replicate 33 level 0 0 h
            ∙ ap (λ (n : ℕ). min n (2 ^ 32 - 1)) (sym (run_none level) ∙ ap (run level) (sym none));
      };
      state = state;
    }

-- a level that no shape has has no run
pub no_run : (l : Log) (level : ℕ) → IsKept l → 33 ≤ level → 0 ≡ run level (log_state l).closed
no_run l level kept h = let levels = kept.trail.shaped.levels in
    sym (run_above l.shape level (log_state l).closed kept.trail.lawful.0 (omega (arith, levels)))

-- a run of a recorded trail is counted whole, and below the top that of any
pub run_counted : (s : TrailState) (level : ℕ) → IsTrail s → (s.recorded ≡ true) ⊎ (level < top_of s.shape)
    → min (run level s.closed) (2 ^ 32 - 1) ≡ run level s.closed
run_counted s level is = ⊎_elim
    (λ (recorded : s.recorded ≡ true).
    let a = run-le-length level s.closed in
    let b = length-append s.closed (option_list s.current) in
    let c = is.room in
    let d = is.recordable recorded in
    omega (arith, a, b, c, d))
    (λ (below : level < top_of s.shape).
    let none = run_none level in
    let a : run level s.closed ≤ slice_index s.shape.keeps level =
    run_within s.shape level [] s.closed below is.lawful.0 (omega (arith, none)) in
    let b = is.countable level in
    omega (arith, a, b))
