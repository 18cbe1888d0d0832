-- Sets of kinds of reports, and the text of a list of kinds.
use Rattle.std.specs.Prelude.{ℕ, List, [], ◌∷◌, codes, Bool, true, false, cond, bytes_eq, find, filter, Option, Some, option_and_then}
use Rattle.hook_select.specs.Groups.{pieces}
use Rattle.analyses.specs.declared.Kind.{Kind}
use Rattle.analyses.specs.declared.Kind.TheVariants.{Blocks, Branches, Calls, Memory}
use Rattle.report.specs.Text.{kind_text}
use Rattle.app_load.specs.declared.kinds.Kinds.{Kinds}

-- each kind once, in the order of the kinds
abbrev pub every_kind : List Kind
every_kind = Blocks ∷ Branches ∷ Calls ∷ Memory ∷ []

-- whether the kind is in the set
abbrev pub has_kind : Kinds → Kind → Bool
has_kind kinds Blocks = kinds.blocks
has_kind kinds Branches = kinds.branches
has_kind kinds Calls = kinds.calls
has_kind kinds Memory = kinds.memory

-- the set of the kinds that pass a test
abbrev pub kinds_of : (Kind → Bool) → Kinds
kinds_of test = record { blocks = test Blocks; branches = test Branches; calls = test Calls; memory = test Memory }

-- the set of every kind
abbrev pub all_reports : Kinds
all_reports = kinds_of (λ kind. true)

-- the empty set
abbrev pub no_kinds : Kinds
no_kinds = kinds_of (λ kind. false)

-- the set with one kind added
abbrev pub with_kind : Kinds → Kind → Kinds
with_kind kinds Blocks = record kinds { blocks = true }
with_kind kinds Branches = record kinds { branches = true }
with_kind kinds Calls = record kinds { calls = true }
with_kind kinds Memory = record kinds { memory = true }

-- the kinds in the set, in the order of the kinds
abbrev pub kinds_in : Kinds → List Kind
kinds_in kinds = filter (has_kind kinds) every_kind

-- the kind with this name, or None if no kind has this name
abbrev pub kind_named : List ℕ → Option Kind
kind_named name = find (λ kind. bytes_eq (kind_text kind) name) every_kind

-- the set with the kinds of these names added, or None if one of the names is the name of no kind
abbrev pub with_named : Kinds → List (List ℕ) → Option Kinds
with_named kinds [] = Some kinds
with_named kinds (name ∷ names) = option_and_then (λ kind. with_named (with_kind kinds kind) names) (kind_named name)

-- The set that a text names. The text is `all`, or names of kinds with single commas between them; a name may be
-- repeated.
abbrev pub read_kinds : (text : List ℕ) → Option Kinds
read_kinds text = cond (bytes_eq text (codes "all")) (Some all_reports) (with_named no_kinds (pieces text))
