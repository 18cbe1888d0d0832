-- No spelling of an event begins another's.
use Rattle.std.proofs.Common.{◌≡◌, ℕ, List, [], ◌∷◌, ◌++◌, sym, ap, ◌∙◌, subst}
use Rattle.hook_select.specs.Fields.{FieldType, place, number, signed, value, block_kind, var_op, num_op, load_op, store_op, callee, values, Fields}
use Rattle.hook_select.specs.Events.{Row, row_of, row_number, types_at, event_row, event_of, number_of}
use Rattle.hook_select.proofs.Events.{told}
use Rattle.trace_file.specs.Begins.{NoneBegins}
use Rattle.trace_file.proofs.Apart.{AreApart, apart_unit, apart_pair}
use Rattle.trace_file.specs.Fields.{field_bytes, bytes_of, FitsField, FitFields, var_number, var_of_number}
use Rattle.trace_file.specs.Rows.{row_bytes, FitsRow, fields_bytes, event_bytes, FitsEvent, FitsTag}
use Rattle.trace_file.proofs.Spellings.{apart_place, apart_number, apart_signed, apart_value, apart_callee, apart_values}
use Rattle.trace_file.proofs.OneByte.{apart_codes, kinds, vars, nums, loads, stores}
use Rattle.wasm_num.specs.Kinds.{kind_number, kind_of_number}
use Rattle.wasm_num.specs.Opcodes.{num_opcode, num_of_opcode}
use Rattle.module_ast.specs.Binary.{load_opcode, load_of_opcode, store_opcode, store_of_opcode}

-- of fields of the same types
apart_field : (t : FieldType) → AreApart (FitsField t) (field_bytes t)
apart_field place = apart_place
apart_field number = apart_number
apart_field signed = apart_signed 32
apart_field value = apart_value
apart_field block_kind = apart_codes kind_number kind_of_number kinds
apart_field var_op = apart_codes var_number var_of_number vars
apart_field num_op = apart_codes num_opcode num_of_opcode nums
apart_field load_op = apart_codes load_opcode load_of_opcode loads
apart_field store_op = apart_codes store_opcode store_of_opcode stores
apart_field callee = apart_callee
apart_field values = apart_values

apart_fields : (ts : List FieldType) → AreApart (FitFields ts) (bytes_of ts)
apart_fields [] = apart_unit
apart_fields (t ∷ ts) = apart_pair (FitsField t) (field_bytes t) (FitFields ts) (bytes_of ts) (apart_field t) (apart_fields ts)

-- of rows with the same number
module _ (m : ℕ) (f : Fields (types_at m)) (fit : FitFields (types_at m) f) where
  abbrev IsApart : ℕ → Type 0
  IsApart n = (g : Fields (types_at n)) (r s : List ℕ) → FitFields (types_at n) g → bytes_of (types_at m) f ++ r ≡ bytes_of (types_at n) g ++ s → (row_of m f ≡ row_of n g) × (r ≡ s)

  is_apart : IsApart m
  is_apart g r s fits e = let t = (apart_fields (types_at m)).apart f g r s fit fits e in (ap (row_of m) t.0, t.1)

apart_rows : (a b : Row) (r s : List ℕ) → FitsRow a → FitsRow b → row_number a ≡ row_number b → row_bytes a ++ r ≡ row_bytes b ++ s → (a ≡ b) × (r ≡ s)
apart_rows (row_of m f) (row_of n g) r s fit fits h d = subst (IsApart m f fit) h (is_apart m f fit) g r s fits d

pub apart_event : AreApart FitsEvent event_bytes
apart_event = record {
  apart = λ x y r s f g e.
      let h : number_of x ≡ number_of y = cc in
      let d : fields_bytes x ++ r ≡ fields_bytes y ++ s = cc in
      let t = apart_rows (event_row x) (event_row y) r s f g h d in
      (sym (told x) ∙ ap event_of t.0 ∙ told y, t.1);
}

-- where no fields of a tag's types stand, no row of the tag does, and no event
none_row : (n : ℕ) (bytes rest : List ℕ) (a : Row) → row_number a ≡ n → FitsRow a → bytes ≡ row_bytes a ++ rest → NoneBegins (FitFields (types_at n)) (bytes_of (types_at n)) bytes → ⊥
none_row n bytes rest (row_of m f) h fit d none =
    subst (λ k. NoneBegins (FitFields (types_at k)) (bytes_of (types_at k)) bytes) (sym h) none rest f (fit, d)

pub none_told : (n tag : ℕ) (bytes : List ℕ) → tag ≡ n → NoneBegins (FitFields (types_at n)) (bytes_of (types_at n)) bytes → NoneBegins (FitsTag tag) fields_bytes bytes
none_told n tag bytes h none rest e ((same, f), b) = none_row n bytes rest (event_row e) (same ∙ h) f b none
