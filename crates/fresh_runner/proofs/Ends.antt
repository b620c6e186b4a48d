-- The marks once the lock was taken apart.
use Rattle.std.proofs.Common.{◌≡◌, ℕ, List, length, map, ap, sym, ◌∙◌, arith, Some}
use Rattle.std.specs.Prelude.{All, option_map, slice_get}
use Rattle.std.proofs.lemmas.Option.{get_or_from_slice_get, slice_get-map, slice_get_within}
use Rattle.keep_local.specs.States.{ShareState, TrailState, callers_in}
use Rattle.keep_local.specs.Views.{times}
use Rattle.keep_local.proofs.Trails.{times_callers}
use Rattle.mc_text.specs.Reading.{commands_of}
use Rattle.kv_history.specs.Log.{Log}
use Rattle.fresh_root.specs.Prefixes.{IsPrefixOf}
use Rattle.fresh_root.specs.States.{SeenState}
use Rattle.threaded_runner.specs.Done.{AreDone}
use Rattle.threaded_runner.specs.Finished.{IsFinished}
use Rattle.fresh_runner.specs.Marked.{AreMarked}
use Rattle.fresh_runner.specs.Places.{places_of}
use Rattle.fresh_runner.specs.declared.account.Marks.{Marks}
use Rattle.fresh_runner.proofs.Items.{all_at, item}
use Rattle.fresh_runner.proofs.Places.{length_places, places_stay}

module _ (trail : TrailState) (log : Log) (shares : List ShareState) (seens : List SeenState) (marks : List Marks)
    (finished : IsFinished trail log) (done : AreDone trail.name trail.quotas shares)
    (quotas : trail.quotas ≡ map (λ (one : List ℕ). length (commands_of one)) log.sections) (many : length shares ≡ length log.sections)
  where
    -- a share has made as many turns as its caller has calls
    made_all : (k : ℕ) (s : ShareState) → slice_get shares k ≡ Some s → s.made ≡ times k (callers_in trail.closed)
    made_all k s e =
        let within = slice_get_within shares k s e in
        let section = item log.sections k (omega (arith, within, many)) in
        let quota = ap (λ (l : List ℕ). slice_get l k) quotas ∙ slice_get-map (λ (one : List ℕ). length (commands_of one)) log.sections k
        ∙ ap (option_map (λ (one : List ℕ). length (commands_of one))) section.1 in
        (done k s e).made ∙ get_or_from_slice_get trail.quotas k (length (commands_of section.0)) 0 quota
        ∙ sym (finished.each_made k section.0 section.1) ∙ sym (times_callers k trail.closed)

    -- so the marks, which are as many, are the places of all calls
    pub are_marked : (calls : List ℕ) → calls ≡ callers_in trail.closed → All (λ (s : SeenState). IsPrefixOf s.list calls) seens
        → length seens ≡ length shares → length marks ≡ length shares
        → ((k : ℕ) (s : SeenState) (m : Marks) → slice_get seens k ≡ Some s → slice_get marks k ≡ Some m
        → m.turns.items ≡ places_of k s.list)
        → ((k : ℕ) (s : ShareState) (m : Marks) → slice_get shares k ≡ Some s → slice_get marks k ≡ Some m → length m.turns.items ≡ s.made)
        → AreMarked (callers_in trail.closed) (length shares) marks
    are_marked calls called prefixes as_seens as_marks marked as_many = record {
      many = as_marks;
      each = λ k m e.
          let within = slice_get_within marks k m e in
          let share = item shares k (omega (arith, within, as_marks)) in
          let seen = item seens k (omega (arith, within, as_marks, as_seens)) in
          let places = marked k seen.0 m seen.1 e in
          let prefix = all_at (λ (s : SeenState). IsPrefixOf s.list calls) seens k seen.0 prefixes seen.1 in
          let made = sym (ap length places ∙ length_places k seen.0.list) ∙ as_many k share.0 m share.1 e ∙ made_all k share.0 share.1 in
          places ∙ sym (places_stay k seen.0.list prefix.behind (callers_in trail.closed) (sym called ∙ prefix.all_are) (sym made));
    }
