-- `and` makes the empty struct, with the list that its clause names. Assumes `Logic`.
use Rattle.std.proofs.Common.{◌≡◌, ℕ, List, [], ◌∷◌, ◌++◌, refl}
use mir.Syntax.{w32}
use mir.Val.{Val, vstruct, vnil, vptr, vint}
use base.Logic.{SProp}
use prog.Wp.{WpFn}
use types.Kit.{‵, raw, prop, ◌⊛◌, ◌$◌, ◌∵◌, !, qed, by, move, keep, drop, split, fsplit, fjoin, feq_i, feq_l, fpack, regoal, use0}
use types.Run.{no_more, returns, enter}
use types.ByLocal.{alloc_all, pass_all, free_all, look_at, sets}
use types.Part.{agg}
use contract.Monad.{fact, fact_i}
use contract.Running.{tables}
use denote.Builtin.{RefOf, u32}
use denote.Exit.{yes}
use denote.RattleType.{owns, Valss}
use denote.Signature.{types_at, plain}
use denote.Steps.{nothing}
use denote.Struct.Owning.{shape}
use denote.Struct.Struct.{within}
use denote.Triple.Entry.{alive}
use denote.Triple.Walked.{Stays, stay_dropped, walk_of, Goes-dropped}
use Rattle.std.proofs.raw_atomic.Walks.{proved_at, leaves}
use Rattle.own_payload.specs.contracts.calls.Calls.{the_row, the_type}
use Rattle.own_payload.specs.contracts.calls.Calls.and.{ended, clauses}
use Rattle.own_payload.specs.contracts.calls.Calls.and.Key.{name as #self}
use Rattle.own_payload.proofs.calls.Calls.and.Statement.{statement}
use Rattle.own_payload.proofs.calls.Calls.and.Code as code

pub and_spec : {M : Type 1} → statement M
and_spec 𝓤 𝓛 𝓜 𝓡 wired =
    let H = 𝓛.H in let 𝓣 = tables 𝓤 H 𝓜 𝓡 𝓡.env in let En = ended in let c = clauses 𝓛 𝓜.mem 𝓡.returns in let fn = code.function in
    let none : Val = vstruct vnil in
    let hs : Stays En.signature.params En.kept =
    (stay_dropped (RefOf (0 ∷ []) tt (plain (λ _. the_row)) (λ _. tt)) yes, (stay_dropped (plain (λ _. u32)) yes, tt)) in
    proved_at 𝓛 En hs c 𝓜 𝓡 (
      Goes-dropped 𝓛 1 (RefOf (0 ∷ []) tt (plain (λ _. the_row)) (λ _. tt)) yes (λ κs x f. refl),
      (Goes-dropped 𝓛 1 (plain (λ _. u32)) yes (λ κs x f. refl), tt),
    ) #self fn (code.unfolded 𝓤 H 𝓜 𝓡 wired) (λ z are.
    let κs = z.0.0 in let qs = z.0.1 in let Post : Val → SProp 𝓤 = (walk_of 𝓛 En hs c).post z in
    let a = z.0.3 in let vss = z.0.4 in let p : Val = vptr a.0.ref_ptr.0 a.0.ref_ptr.1 in let n : ℕ = a.1.0 in
    let callers : List ℕ = a.0.now.callers ++ n ∷ [] in
    qed 𝓛 ((raw (alive 𝓛 En.signature κs qs) ⊛ ‵ (owns (types_at En.signature.params κs) a vss)) ∷ raw
    ((c κs a).requires z.1) ∷ []) ∵ keep ! (0 ∷ []) $ split ! $ move ! (1 ∷ []) $ fsplit ! $ fsplit ! $ feq_l ! (λ is. drop ! $ drop ! $
    regoal ! (λ (us : List Val). prop (WpFn 𝓤 H 𝓣.C 𝓣.Λ fn (us ++ (vss.1.0 ++ [])) Post)) is refl $
    regoal ! (λ (us : List Val). prop (WpFn 𝓤 H 𝓣.C 𝓣.Λ fn ((p ∷ []) ++ (us ++ [])) Post)) are.1.0.0 refl $
    enter ! 𝓣.C 𝓣.Λ fn (p ∷ vint w32 n ∷ []) Post $ alloc_all ! (λ l. pass_all ! refl ((tt, tt), ((tt, record { fits = are.1.0.1 }), tt)) $
    sets ! (agg ! (no_more !)) refl (tt, tt) $
    nothing ! $ nothing ! $ feq_i ! (List Val) (none ∷ []) (none ∷ []) refl $ fjoin ! $
    fpack ! (Valss []) (within (shape the_type) _ (none ∷ [])) tt $ fjoin ! $
    use0 𝓛 (raw (fact 𝓤 (callers ≡ callers))) (fact_i 𝓤 _ _ refl) $ nothing ! $ nothing ! $ fjoin ! $ nothing ! $ fjoin ! $
    returns ! (look_at ! 0 refl) $ free_all ! refl $ keep ! (3 ∷ 0 ∷ 2 ∷ 1 ∷ []) $
    by ! (leaves 𝓛 En hs c z none (record { callers = callers }) (tt, (tt, tt)) (tt, (tt, tt))))))
