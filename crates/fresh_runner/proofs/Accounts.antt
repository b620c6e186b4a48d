-- What a caller keeps behind a turn.
use Rattle.std.proofs.Common.{◌≡◌, ℕ, ◌+◌, List, [], ◌∷◌, ◌++◌, length, length-append, ap, sym, ◌∙◌, arith, vec_capacity}
use Rattle.keep_local.specs.States.{ShareState}
use Rattle.keep_local.specs.Views.{times}
use Rattle.clof_compose.specs.Courses.{Course}
use Rattle.fresh_root.specs.Prefixes.{IsPrefixOf}
use Rattle.fresh_root.specs.States.{SeenState}
use Rattle.fresh_runner.specs.Jobs.{IsAccount}
use Rattle.fresh_runner.specs.Places.{places_of}
use Rattle.fresh_runner.specs.declared.account.Account.{Account}
use Rattle.fresh_runner.proofs.Places.{length_places, places_more, places_stay}

-- the token saw the calls at the root and the one that was added, and the marks have the place of that
pub account_after : (course : Course) (caller : ℕ) (old new : Account) (list : List ℕ) → IsAccount course caller old
    → IsPrefixOf old.seen.list list → times caller list ≡ old.share.made → new.share ≡ record old.share { made = old.share.made + 1 }
    → new.seen ≡ record old.seen { list = list ++ caller ∷ [] } → new.marks.turns.items ≡ old.marks.turns.items ++ length list ∷ []
    → vec_capacity new.marks.turns ≡ vec_capacity old.marks.turns → IsAccount course caller new
account_after course caller old new list is prefix called share seen marks capacity =
    let share_is = is.share_is in
    let many = is.as_many in
    let before = called ∙ sym many ∙ ap length is.marks_are ∙ length_places caller old.seen.list in
    let stay = places_stay caller old.seen.list prefix.behind list prefix.all_are before in
    let made = ap (λ (s : ShareState). s.made) share in
    let quota = ap (λ (s : ShareState). s.quota) share in
    let one = ap length marks ∙ length-append old.marks.turns.items (length list ∷ []) in
    let room = is.room in record {
      recorded = is.recorded;
      share_is = record {
        own = ap (λ (s : ShareState). s.name) share ∙ share_is.own;
        caller_is = ap (λ (s : ShareState). s.caller) share ∙ share_is.caller_is;
        known = share_is.known;
        quota = quota ∙ share_is.quota;
      };
      seen_is = record {
        fresh_is = ap (λ (s : SeenState). s.fresh) seen ∙ is.seen_is.fresh_is;
        caller_is = ap (λ (s : SeenState). s.caller) seen ∙ is.seen_is.caller_is;
      };
      marks_are = marks ∙ ap (λ (l : List ℕ). l ++ length list ∷ []) (is.marks_are ∙ sym stay) ∙ sym (places_more caller list)
          ∙ ap (λ (s : SeenState). places_of caller s.list) (sym seen);
      as_many = omega (arith, one, many, made);
      room = omega (arith, quota, room, capacity);
    }
