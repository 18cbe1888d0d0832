-- Bodies with few locals.
use Rattle.std.specs.Prelude.{◌^◌, ◌<◌, List, [], ◌∷◌}
use Rattle.module_ast.specs.declared.module.Body.{Body}
use Rattle.module_ast.specs.Binary.{locals_of}

-- each body has fewer than 2 ^ 32 locals
abbrev pub AreFew : List Body → Type 0
AreFew [] = Unit {0}
AreFew (b ∷ bs) = (locals_of b.groups < 2 ^ 32) × AreFew bs
