-- Turns of one caller alone, each of which climbed to the top and left there.
use Rattle.std.proofs.Common.{◌≡◌, ◌≢◌, ℕ, zero, suc, ◌+◌, ◌-◌, ◌^◌, ◌<◌, ◌≤◌, false, true, cond, List, [], ◌∷◌, ◌++◌, length}
use Rattle.std.proofs.Common.{get_or, set, slice_index}
use Rattle.std.proofs.Common.{refl, ap, sym, ◌∙◌, subst, arith, add-one, Option, Some, None}
use Rattle.std.specs.Prelude.{All, IfSome, min, sum, replicate}
use Rattle.std.specs.Option.{option_map_or}
use Rattle.std.proofs.lemmas.List.{append-nil, length-replicate, replicate_more, length-set, get_or-set_same, get_or-set_other}
use Rattle.std.proofs.lemmas.List.Elements.{All-replicate}
use Rattle.std.proofs.lemmas.Nat.Bits.{bit_at-zero}
use mathlib.Core.Logic.{dite}
use native.Mathlib.Decide.{dec_le, ℕ_discrete}
use Rattle.atomic_table.specs.Seated.{TableId}
use Rattle.keep_local.specs.declared.shape.Shape.{Shape}
use Rattle.keep_local.specs.declared.turn.Turn.{Turn}
use Rattle.keep_local.specs.declared.trail.Log.{Log}
use Rattle.keep_local.specs.Shapes.{top_of, callers_of}
use Rattle.keep_local.specs.Turns.{run, last_turn, climb_after, AreUnderOneNode, Begins, Follows, IsLawful}
use Rattle.keep_local.specs.States.{TrailState, NotesState, ShareState, TieState, IsCounted, IsTrail, option_list, all_turns, callers_in}
use Rattle.keep_local.specs.States.{free_quota, free_quotas, lone_turn, new_share, new_shares, shares_behind, trail_behind}
use Rattle.keep_local.specs.States.{unrecorded_trail}
use Rattle.keep_local.specs.Trails.{log_state}
use Rattle.keep_local.proofs.Runs.{run_none, run_same, run_lower, run_higher, lawful_push}
use Rattle.keep_local.proofs.Logs.{last_push}
use Rattle.keep_local.proofs.Steps.{HasState}

-- one more turn stands last
pub replicate_push : (n : ℕ) (t : Turn) → replicate (suc n) t ≡ replicate n t ++ t ∷ []
replicate_push n t = ap (λ (k : ℕ). replicate k t) (sym (add-one n)) ∙ sym (replicate_more n t)

pub last_many : (n : ℕ) (t : Turn) → last_turn (replicate (suc n) t) ≡ Some t
last_many n t = ap last_turn (replicate_push n t) ∙ last_push (replicate n t) t

callers_many : (n : ℕ) (t : Turn) → callers_in (replicate n t) ≡ replicate n t.caller
callers_many zero t = refl
callers_many (suc n) t = ap (λ (cs : List ℕ). t.caller ∷ cs) (callers_many n t)

-- the run of the level that they left at, and of any other
run_many : (n : ℕ) (t : Turn) → run t.left (replicate n t) ≡ n
run_many zero t = run_none t.left
run_many (suc n) t =
    let a = ap (run t.left) (replicate_push n t) in
    let b = run_same t.left (replicate n t) t refl in
    let c = run_many n t in
    omega (arith, a, b, c)

run_other : (level n : ℕ) (t : Turn) → level ≢ t.left → run level (replicate n t) ≡ 0
run_other level zero t ne = run_none level
run_other level (suc n) t ne = ap (run level) (replicate_push n t) ∙ dite (dec_le (suc level) t.left)
    (λ higher. run_higher level (replicate n t) t higher)
    (λ not_higher. run_lower level (replicate n t) t (omega arith) ∙ run_other level n t ne)

module _ (shape : Shape) (caller : ℕ) where
  abbrev lone : Turn
  lone = lone_turn shape caller

  -- one behind turns that left the lock to it at the top
  follows : (before : List Turn) → climb_after shape before ≡ top_of shape
      → IfSome (last_turn before) (λ last. AreUnderOneNode shape (top_of shape) lone last) → Follows shape before lone
  follows before climb near = record {
    begins = record { climb = sym climb; near = near };
    ends = record {
      left = record {
        within = omega arith;
        due = λ h. absurd (omega (arith, h));
        least = λ level h due. let a = bit_at-zero level in let b = due.queued in omega (arith, a, b);
      };
      tests = λ level e. absurd (let a = bit_at-zero level in omega (arith, a, e));
    };
  }

  pub lone_lawful : (n : ℕ) → IsLawful shape (replicate n lone)
  lone_lawful zero = tt
  lone_lawful (suc zero) = lawful_push shape [] lone tt (follows [] refl tt)
  lone_lawful (suc (suc n)) =
      let before : List Turn = replicate (suc n) lone in
      let last : last_turn before ≡ Some lone = last_many n lone in
      subst (IsLawful shape) (sym (replicate_push (suc n) lone))
      (lawful_push shape before lone (lone_lawful (suc n))
      (follows before (ap (λ (o : Option Turn). option_map_or (λ t. t.left) o (top_of shape)) last)
      (subst (λ (o : Option Turn). IfSome o (λ t. AreUnderOneNode shape (top_of shape) lone t)) (sym last) refl)))

-- a trail without turns is one behind these turns too
trail_begun : (s : TrailState) (caller n : ℕ) → IsTrail s → s.current ≡ None → caller < callers_of s.shape → n ≤ sum s.quotas
    → IsTrail (record s { closed = replicate n (lone_turn s.shape caller) })
trail_begun s caller n is free known room =
    let t : Turn = lone_turn s.shape caller in
    let ts : List Turn = replicate n t in
    let all : ts ++ option_list s.current ≡ ts = ap (λ (o : Option Turn). ts ++ option_list o) free ∙ append-nil ts in record {
      shaped = is.shaped;
      few = is.few;
      countable = is.countable;
      quotas = is.quotas;
      fits = is.fits;
      recordable = is.recordable;
      lawful = (lone_lawful s.shape caller n, subst (λ (o : Option Turn). IfSome o (λ u. Begins s.shape ts u)) (sym free) tt);
      noting = is.noting;
      closed = is.closed;
      room = let a = ap length all in let b = length-replicate n t in omega (arith, a, b, room);
      known = subst (All (λ u. u.caller < callers_of s.shape)) (sym all)
          (All-replicate (λ (u : Turn). u.caller < callers_of s.shape) n t known);
    }

-- the log behind these turns
abbrev pub with_lone : Log → TieState → NotesState → Option Turn → List ℕ → Log
with_lone l tie given last runs = record l { tie = tie; receipts = given; last = last; runs = runs }

pub lone_begun : (l : Log) (s : TrailState) (share : ShareState) (n : ℕ) (tie : TieState) (given : NotesState) (last : Option Turn)
    (t : Turn) (runs : List ℕ) → HasState l s → s.recorded ≡ false → s.closed ≡ [] → s.current ≡ None → IsCounted l.tie share
    → length l.tie.callers + n ≤ sum l.tie.quotas → tie ≡ record l.tie { callers = l.tie.callers ++ replicate n share.caller }
    → t ≡ lone_turn l.shape share.caller → given ≡ record l.receipts { turns = l.receipts.turns ++ replicate n t }
    → last ≡ last_turn (replicate n t) → runs ≡ set l.runs (top_of l.shape) (min n (2 ^ 32 - 1))
    → HasState (with_lone l tie given last runs) (record s { closed = replicate n (lone_turn s.shape share.caller) })
lone_begun l s share n tie given last t runs has unrecorded none free told room tie_is t_is given_is last_is runs_is =
    let z : TrailState = log_state l in
    let kept = has.kept in
    let l' : Log = with_lone l tie given last runs in
    let u : Turn = lone_turn l.shape share.caller in
    let none' : z.closed ≡ [] = ap (λ (x : TrailState). x.closed) has.state ∙ none in
    let free' : z.current ≡ None = ap (λ (x : TrailState). x.current) has.state ∙ free in
    let unrecorded' : l.recorded ≡ false = ap (λ (x : TrailState). x.recorded) has.state ∙ unrecorded in
    let turns : given.turns ≡ replicate n u = ap (λ (x : NotesState). x.turns) given_is ∙ ap (λ (ts : List Turn). ts ++ replicate n t) none'
    ∙ ap (replicate n) t_is in
    let state : log_state l' ≡ record z { closed = replicate n u } = λ i. record z {
      name = (tie_is i).name;
      quotas = (tie_is i).quotas;
      receipts = (given_is i).name;
      closed = turns i;
    } in
    let quotas = kept.trail.quotas in
    let known = told.known in
    let trail : IsTrail (record z { closed = replicate n u }) =
    trail_begun z share.caller n kept.trail free' (omega (arith, known, quotas)) (omega (arith, room)) in
    let all : all_turns z ≡ [] = λ i. none' i ++ option_list (free' i) in
    let all' : all_turns (log_state l') ≡ replicate n u = ap (λ (o : Option Turn). given.turns ++ option_list o) free'
    ∙ append-nil given.turns ∙ turns in
    let levels = kept.trail.shaped.levels in
    let counters = kept.counters in record {
      kept = record {
        trail = subst IsTrail (sym state) trail;
        callers = ap (λ (x : TieState). x.callers) tie_is
            ∙ ap (λ (cs : List ℕ). cs ++ replicate n share.caller) (kept.callers ∙ ap callers_in all)
            ∙ sym (callers_many n u) ∙ ap callers_in (sym all');
        turns = kept.turns ∙ ap (λ x. cond x (all_turns z) []) unrecorded'
            ∙ ap (λ x. cond x (all_turns (log_state l')) []) (sym unrecorded');
        room = λ is. absurd (let x : false ≡ true = sym unrecorded' ∙ is in cc);
        last = last_is ∙ ap (λ (x : Turn). last_turn (replicate n x)) t_is ∙ ap last_turn (sym turns);
        counters = ap length runs_is ∙ length-set l.runs (top_of l.shape) (min n (2 ^ 32 - 1)) ∙ kept.counters;
        runs = λ k h. ap (λ (rs : List ℕ). slice_index rs k) runs_is ∙ dite (ℕ_discrete k (top_of l.shape))
            (λ same. ap (slice_index (set l.runs (top_of l.shape) (min n (2 ^ 32 - 1)))) same
            ∙ get_or-set_same l.runs (top_of l.shape) (min n (2 ^ 32 - 1)) 0 (omega (arith, levels, counters))
            ∙ ap (λ (m : ℕ). min m (2 ^ 32 - 1)) (sym (run_many n u)
            ∙ ap (λ (x : ℕ × List Turn). run x.0 x.1) (λ i. (sym same i, sym turns i))))
            (λ other. get_or-set_other l.runs (top_of l.shape) k (min n (2 ^ 32 - 1)) 0 other ∙ kept.runs k h
            ∙ ap (λ (m : ℕ). min m (2 ^ 32 - 1)) (ap (run k) none' ∙ run_none k ∙ sym (run_other k n u other) ∙ ap (run k) (sym turns)));
      };
      state = state ∙ ap (λ (x : TrailState). record x { closed = replicate n (lone_turn x.shape share.caller) }) has.state;
    }

-- the first share of an unrecorded trail
pub first_share : (name : TableId) (callers : ℕ) (d : ShareState) → 0 < callers
    → get_or (new_shares name (free_quotas callers)) 0 d ≡ new_share name (0, free_quota callers)
first_share name zero d some = absurd (omega (arith, some))
first_share name (suc n) d some = refl

-- the trail and the shares behind turns of the first caller
pub trail_is : (s t : TrailState) (shape : Shape) (caller n : ℕ) → s ≡ unrecorded_trail s.name s.receipts shape → caller ≡ 0
    → t ≡ record s { closed = replicate n (lone_turn s.shape caller) } → t ≡ trail_behind t.name t.receipts shape n
trail_is s t shape caller n new first behind =
    let names : (s.name, s.receipts) ≡ (t.name, t.receipts) = λ i. (
      sym (ap (λ (x : TrailState). x.name) behind) i,
      sym
          (ap (λ (x : TrailState). x.receipts) behind) i,
    ) in
    behind ∙ (λ i. record (new i) { closed = replicate n (lone_turn (new i).shape (first i)) })
    ∙ ap (λ (x : TableId × TableId). trail_behind x.0 x.1 shape n) names

pub shares_are : (name name' : TableId) (callers n : ℕ) (shares : List ShareState) (share share' : ShareState)
    → shares ≡ new_shares name (free_quotas callers) → share ≡ new_share name (0, free_quota callers)
    → share' ≡ record share { made = share.made + n } → name ≡ name' → set shares 0 share' ≡ shares_behind name' callers n
shares_are name name' callers n shares share share' new first made same =
    let none : 0 + n ≡ n = omega arith in
    let one : share' ≡ record (new_share name (0, free_quota callers)) { made = n } = made
    ∙ ap (λ (x : ShareState). record x { made = x.made + n }) first
    ∙ ap (λ (m : ℕ). record (new_share name (0, free_quota callers)) { made = m }) none in
    (λ i. set (new i) 0 (one i)) ∙ ap (λ (z : TableId). shares_behind z callers n) same
