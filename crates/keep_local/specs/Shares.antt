-- What a share keeps.
use Rattle.std.specs.Prelude.{◌≡◌, ◌≤◌, [], ◌∷◌}
use Rattle.keep_local.specs.States.{ShareState}
use Rattle.keep_local.specs.Views.{share_view}
use Rattle.keep_local.specs.declared.share.Share.TheInside.{Inside}

abbrev pub share_state : Inside → ShareState
share_state s = record { name = s.badge.table_id; caller = s.caller; made = s.made; quota = s.quota }

-- its seat has its caller's tally
pub record IsShare (s : Inside) : Type 0 where
  pub seated : s.badge.views ≡ share_view (record { caller = s.caller; made = s.made; quota = s.quota }) ∷ []
  pub within : s.made ≤ s.quota
