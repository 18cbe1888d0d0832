-- The lines of the functions that grew the memory.
use Rattle.std.specs.Prelude.{ℕ, List, [], ◌∷◌, flat_map, codes, decimal}
use Rattle.app_load.specs.Texts.{concat_texts}
use Rattle.memory_growth.specs.declared.growing.Growth.{Growth}

-- the line of a function and its growths
abbrev pub growth_line : ℕ × Growth → List ℕ
growth_line e = concat_texts (codes "function " ∷ decimal e.0 ∷ codes ": " ∷ decimal e.1.refused ∷ codes " of " ∷ decimal e.1.times ∷ codes " refused\n" ∷ [])

-- one line for each function
abbrev pub growths_text : List (ℕ × Growth) → List ℕ
growths_text gs = flat_map growth_line gs
