-- The functions of a module that lists choose.
use Rattle.std.specs.Prelude.{ℕ, ◌==◌, ◌&&◌, ◌||◌, not, nat_le, nat_lt, List, [], length, map, find, Bool, true, false, Option, Some, None, is_none, bytes_eq}
use Rattle.std.specs.List.{list_any, starts_with, range_with_len}
use Rattle.std.specs.Option.{option_map_or}
use Rattle.module_ast.specs.declared.module.Module.{Module}
use Rattle.module_ast.specs.declared.module.Export.{Export}
use Rattle.module_ast.specs.declared.module.ExportKind.{ExportKind}
use Rattle.module_ast.specs.declared.module.ExportKind.TheVariants.{Func}
use Rattle.module_ast.specs.Structure.{funcs_of, imported_funcs}
use Rattle.name_map.specs.declared.Named.{Named}
use Rattle.name_map.specs.declared.Names.{Names}
use Rattle.hook_select.specs.Groups.{pieces}
use Rattle.function_list.specs.Pieces.{Piece, indices, name, prefix, read_piece}

-- ---- the functions that a piece means

-- whether a function has a body: it is one of the module's, and not imported
abbrev pub has_body : Module → (func : ℕ) → Bool
has_body m f = nat_le (length (imported_funcs m.imports)) f && nat_lt f (length (funcs_of m))

-- whether a piece calls functions by this name
abbrev pub calls : Piece → (text : List ℕ) → Bool
calls (indices first last) text = false
calls (name wanted) text = bytes_eq text wanted
calls (prefix front) text = starts_with (λ a b. a == b) text front

abbrev pub is_func : ExportKind → Bool
is_func Func = true
is_func _ = false

-- whether a function that passes the test has a name that the piece calls: the name of an export, or one of the section of names
abbrev pub is_exported : Piece → (test : ℕ → Bool) → List Export → Bool
is_exported p test = list_any (λ e. is_func e.kind && (calls p e.name.bytes && test e.index))

abbrev pub is_named : Piece → (test : ℕ → Bool) → List Named → Bool
is_named p test = list_any (λ n. calls p n.name.bytes && test n.index)

abbrev pub calls_some : Module → Names → Piece → (test : ℕ → Bool) → Bool
calls_some m names p test = is_exported p test m.exports || is_named p test names.functions

-- whether a piece means the function
abbrev pub means : Module → Names → (func : ℕ) → Piece → Bool
means m names f (indices first last) = nat_le first f && nat_le f last
means m names f p = calls_some m names p (λ g. g == f)

-- whether a piece means functions with bodies: all of a range, or one of those that have the name
abbrev pub is_known : Module → Names → Piece → Bool
is_known m names (indices first last) = has_body m first && has_body m last
is_known m names p = calls_some m names p (has_body m)

-- ---- lists of pieces

-- the texts of the pieces; none if there is no list
abbrev pub listed : Option (List ℕ) → List (List ℕ)
listed None = []
listed (Some list) = pieces list

-- whether the text of a piece means the function
abbrev pub text_means : Module → Names → (func : ℕ) → (text : List ℕ) → Bool
text_means m names f text = option_map_or (means m names f) (read_piece text) false

-- whether some piece of a list means the function
abbrev pub is_listed : Module → Names → (texts : List (List ℕ)) → (func : ℕ) → Bool
is_listed m names texts f = list_any (text_means m names f) texts

-- whether the text of a piece means functions with bodies
abbrev pub is_known_text : Module → Names → (text : List ℕ) → Bool
is_known_text m names text = option_map_or (is_known m names) (read_piece text) false

-- the first piece of a list that means no function with a body
abbrev pub first_unknown : Module → Names → (texts : List (List ℕ)) → Option (List ℕ)
first_unknown m names texts = find (λ text. not (is_known_text m names text)) texts

-- Whether a function is chosen: it has a body, a piece of `functions` means it if there is such a list, and no piece of `except`
-- means it.
abbrev pub is_chosen : Module → Names → (functions except : Option (List ℕ)) → (func : ℕ) → Bool
is_chosen m names functions except f =
    has_body m f && ((is_none functions || is_listed m names (listed functions) f) && not (is_listed m names (listed except) f))

-- a flag for each function of the module, whether it is chosen
abbrev pub chosen : Module → Names → (functions except : Option (List ℕ)) → List Bool
chosen m names functions except = map (is_chosen m names functions except) (range_with_len 0 (length (funcs_of m)))
