-- What words name, without regard to the case of ASCII letters (this project's profile).
use Rattle.std.specs.Prelude.{ℕ, List, [], ◌∷◌, take, drop, codes, Option, Some, None, option_map, if◌then◌else◌}
use Rattle.std.specs.Str.{str_eq_ignore_ascii_case}
use Rattle.synth_text.specs.declared.kind.Kind.{Kind}
use Rattle.synth_text.specs.declared.kind.Kind.TheVariants.{Machine, Package, Die, Group, L5, L4, L3, L2, L1d, L1i, Core, Pu, NumaNode}
use Rattle.synth_text.specs.declared.name.Name.{Name}
use Rattle.synth_text.specs.declared.name.Name.TheVariants as names
use Rattle.byte_text.specs.Numerals.{number_capped}
use Rattle.synth_text.specs.Tables.{entry_of}

-- the names, in lower case
abbrev pub kind_names : List (List ℕ × Kind)
kind_names =
    (codes "machine", Machine) ∷ (codes "package", Package) ∷ (codes "pack", Package) ∷ (codes "socket", Package) ∷ (codes "die", Die)
    ∷ (codes "group", Group)
    ∷ (codes "l5", L5) ∷ (codes "l5cache", L5) ∷ (codes "l4", L4) ∷ (codes "l4cache", L4) ∷ (codes "l3", L3) ∷ (codes "l3cache", L3)
    ∷ (codes "l2", L2) ∷ (codes "l2cache", L2)
    ∷ (codes "l1", L1d) ∷ (codes "l1cache", L1d) ∷ (codes "l1d", L1d) ∷ (codes "l1dcache", L1d) ∷ (codes "l1i", L1i)
    ∷ (codes "l1icache", L1i)
    ∷ (codes "core", Core) ∷ (codes "pu", Pu) ∷ (codes "numanode", NumaNode) ∷ (codes "numa", NumaNode) ∷ (codes "node", NumaNode) ∷ []

-- the kind that a word names without a number
unfoldable pub kind_named : List ℕ → Option Kind
kind_named word = entry_of kind_names word

-- the Group level that `group` and digits name
unfoldable pub group_numbered : List ℕ → Option Name
group_numbered word =
    if str_eq_ignore_ascii_case (take 5 word) (codes "group") then option_map names.Group (number_capped (drop 5 word)) else None

-- the kind, or else the numbered Group
abbrev pub name_or : Option Kind → Option Name → Option Name
name_or (Some kind) other = Some (names.Kind kind)
name_or None other = other

-- what a word names
abbrev pub name_of : List ℕ → Option Name
name_of word = name_or (kind_named word) (group_numbered word)
