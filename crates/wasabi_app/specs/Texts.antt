-- The texts of modes: of refusals and of answers. Each is a line.
use Rattle.std.specs.Prelude.{ℕ, List, [], ◌∷◌, codes, decimal}
use Rattle.app_load.specs.Texts.{concat_texts}

abbrev pub taken_text : (name : List ℕ) → List ℕ
taken_text name = concat_texts (codes "error 9: " ∷ name ∷ codes " is already instrumented\n" ∷ [])

abbrev pub too_large_text : (long : ℕ) → List ℕ
too_large_text long = concat_texts (codes "error 9: the output would be " ∷ decimal long ∷ codes " bytes\n" ∷ [])

abbrev pub no_import_text : (name : List ℕ) → List ℕ
no_import_text name = concat_texts (codes "error 20: no imported function " ∷ name ∷ codes "\n" ∷ [])

abbrev pub no_function_text : (piece : List ℕ) → List ℕ
no_function_text piece = concat_texts (codes "error 23: no function " ∷ piece ∷ codes "\n" ∷ [])

-- the line of an output of `bytes` bytes with `hooks` hooks
abbrev pub wrote_text : (bytes hooks : ℕ) → List ℕ
wrote_text bytes hooks = concat_texts (codes "wrote " ∷ decimal bytes ∷ codes " bytes with " ∷ decimal hooks ∷ codes " hooks\n" ∷ [])
