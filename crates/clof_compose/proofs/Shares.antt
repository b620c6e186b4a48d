-- The shares of a trail, as they are given out.
use Rattle.std.proofs.Common.{◌≡◌, ℕ, zero, suc, ◌+◌, ◌<◌, List, [], ◌∷◌, length, map, slice_index, ap, sym, ◌∙◌, subst, arith, Some}
use Rattle.std.specs.Prelude.{slice_get}
use Rattle.std.specs.List.{enumerate_from}
use Rattle.std.proofs.lemmas.List.{length-map}
use Rattle.std.proofs.lemmas.List.FromFn.{length-enumerate_from}
use Rattle.atomic_table.specs.Seated.{TableId}
use Rattle.keep_local.specs.Shapes.{callers_of}
use Rattle.keep_local.specs.States.{ShareState, new_share, new_shares}
use Rattle.clof_compose.specs.Calls.{MayTurn}
use Rattle.clof_compose.specs.Courses.{Course}
use Rattle.clof_compose.specs.Shares.{IsShareIn}

-- the share at a place, where callers are counted from a first one
record IsDealt (name : TableId) (quotas : List ℕ) (first k : ℕ) (s : ShareState) : Type 0 where
  name_is : s.name ≡ name
  caller_is : s.caller ≡ first + k
  quota_is : s.quota ≡ slice_index quotas k
  within : k < length quotas

dealt : (name : TableId) (quotas : List ℕ) (first k : ℕ) (s : ShareState)
    → slice_get (map (new_share name) (enumerate_from first quotas)) k ≡ Some s → IsDealt name quotas first k s
dealt name [] first k s e = absurd (cc)
dealt name (q ∷ qs) first zero s e =
    let is : new_share name (first, q) ≡ s = cc in
    let caller : first ≡ s.caller = ap (λ (t : ShareState). t.caller) is in record {
      name_is = ap (λ (t : ShareState). t.name) (sym is);
      caller_is = omega (arith, caller);
      quota_is = ap (λ (t : ShareState). t.quota) (sym is);
      within = omega arith;
    }
dealt name (q ∷ qs) first (suc k) s e =
    let rest = dealt name qs (first + 1) k s e in
    let caller = rest.caller_is in
    let within = rest.within in record {
      name_is = rest.name_is;
      caller_is = omega (arith, caller);
      quota_is = rest.quota_is;
      within = omega (arith, within);
    }

pub new_share_in : (course : Course) (shares : List ShareState) → length course.quotas ≡ callers_of course.shape
    → shares ≡ new_shares course.name course.quotas → (k : ℕ) (s : ShareState) → slice_get shares k ≡ Some s → IsShareIn course k s
new_share_in course shares all is k s e =
    let at = dealt course.name course.quotas 0 k s (ap (λ (l : List ShareState). slice_get l k) (sym is) ∙ e) in
    let caller = at.caller_is in
    let within = at.within in record {
      own = at.name_is;
      caller_is = omega (arith, caller);
      known = omega (arith, within, all);
      quota = at.quota_is;
    }

-- there is one for each caller
pub as_many_shares : (name : TableId) (quotas : List ℕ) (shares : List ShareState) → shares ≡ new_shares name quotas
    → length shares ≡ length quotas
as_many_shares name quotas shares is =
    ap length is ∙ length-map (enumerate_from 0 quotas) (new_share name) ∙ length-enumerate_from 0 quotas

-- a share is that of its own caller
pub own_share : (course : Course) (k : ℕ) (s : ShareState) → IsShareIn course k s → IsShareIn course s.caller s
own_share course k s is = subst (λ (n : ℕ). IsShareIn course n s) (sym is.caller_is) is

-- its caller may make another turn, under its own context of a lock of the lowest level
pub may_turn : (course : Course) (number made : ℕ) (s t : ShareState) → IsShareIn course s.caller s → number ≡ s.caller
    → t ≡ record s { made = made } → made < s.quota → MayTurn course 0 number t
may_turn course number made s t is number_is same left =
    let caller = ap (λ (u : ShareState). u.caller) same in
    let quota = ap (λ (u : ShareState). u.quota) same in
    let made_is = ap (λ (u : ShareState). u.made) same in
    let known = is.known in record {
      own = ap (λ (u : ShareState). u.name) same ∙ is.own;
      known = omega (arith, caller, known);
      quota = omega (arith, quota, made_is, left);
      context = record { lowest = λ e. number_is ∙ sym caller; higher = λ j e. absurd (omega (arith, e)) };
    }
