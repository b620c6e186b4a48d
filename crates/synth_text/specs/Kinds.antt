-- Kinds of objects and the names that they are printed with, without a Group's number.
use Rattle.std.specs.Prelude.{ℕ, Bool, true, false, ◌==◌, List, codes}
use Rattle.synth_text.specs.declared.kind.Kind.{Kind}
use Rattle.synth_text.specs.declared.kind.Kind.TheVariants.{Machine, Package, Die, Group, L5, L4, L3, L2, L1d, L1i, Core, Pu, NumaNode}

-- whether objects of a kind are caches, which have a size
abbrev pub is_cache : Kind → Bool
is_cache L5 = true
is_cache L4 = true
is_cache L3 = true
is_cache L2 = true
is_cache L1d = true
is_cache L1i = true
is_cache _ = false

-- the name of an object in a printed topology
abbrev pub short_name_of : Kind → List ℕ
short_name_of Machine = codes "Machine"
short_name_of Package = codes "Package"
short_name_of Die = codes "Die"
short_name_of Group = codes "Group"
short_name_of L5 = codes "L5"
short_name_of L4 = codes "L4"
short_name_of L3 = codes "L3"
short_name_of L2 = codes "L2"
short_name_of L1d = codes "L1d"
short_name_of L1i = codes "L1i"
short_name_of Core = codes "Core"
short_name_of Pu = codes "PU"
short_name_of NumaNode = codes "NUMANode"

-- the name of a level in a canonical text
abbrev pub long_name_of : Kind → List ℕ
long_name_of L5 = codes "L5Cache"
long_name_of L4 = codes "L4Cache"
long_name_of L3 = codes "L3Cache"
long_name_of L2 = codes "L2Cache"
long_name_of L1d = codes "L1dCache"
long_name_of L1i = codes "L1iCache"
long_name_of kind = short_name_of kind

-- the place of a kind among all kinds
abbrev pub kind_number : Kind → ℕ
kind_number Machine = 0
kind_number Package = 1
kind_number Die = 2
kind_number Group = 3
kind_number L5 = 4
kind_number L4 = 5
kind_number L3 = 6
kind_number L2 = 7
kind_number L1d = 8
kind_number L1i = 9
kind_number Core = 10
kind_number Pu = 11
kind_number NumaNode = 12

-- whether two kinds are the same
unfoldable pub same_kind : Kind → Kind → Bool
same_kind kind other = kind_number kind == kind_number other
