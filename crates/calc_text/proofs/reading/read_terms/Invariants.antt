use Rattle.std.proofs.Common.{◌≡◌, map, drop}
use Rattle.calc_query.specs.Selection.{HaveLayers}
use Rattle.calc_text.specs.Reading.{terms_from}
use Rattle.calc_text.proofs.TermReadings.{after}
use Rattle.calc_text.proofs.reading.read_terms.Given as goal

abbrev pub invariant-loop-number : goal.invariant-loop-number
invariant-loop-number l =
    record {
      read : after l.terms.items (terms_from l.tree l.number (map (λ word. word.now) (drop l.number l.words)))
          ≡ terms_from l.tree 0 (map (λ word. word.now) l.words);
      layers : HaveLayers l.tree l.terms.items;
    }
