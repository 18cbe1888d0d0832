-- What is found where a name leads.
use Rattle.std.specs.Prelude.{◌≡◌, List, string_bytes}
use Rattle.outside_io.specs.declared.disk.Found.{Found}
use Rattle.outside_io.specs.declared.disk.Found.TheVariants as found
use Rattle.outside_io.specs.Disk.{Lead, At, Special}

-- the place to which a name leads, or that it leads to something special
abbrev pub IsFound : Lead → Found → Type 0
IsFound (At place) (found.At at) = string_bytes at ≡ place
IsFound (Special _) found.Special = Unit {0}
IsFound _ _ = ⊥
