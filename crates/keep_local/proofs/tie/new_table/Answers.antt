use Rattle.std.proofs.Common.{◌^◌, ◌<◌, ◌≡◌, List, ℕ, sym, subst, rules}
use Rattle.std.specs.Prelude.{sum}
use Rattle.keep_local.proofs.Tied.{opens}
use Rattle.keep_local.proofs.tie.new_table.Goals as goal

pub of_words-requires : goal.of_words-requires
of_words-requires c =
    let same : c.from_vec-about.result ≡ c.args.quotas.now = search rules in
    opens _ (subst (λ (qs : List ℕ). sum qs < 2 ^ 64) (sym same) c.requires.fits)
