-- What one byte tells: it is found by its code, what is found has that code, and codes are bytes.
use Rattle.std.proofs.Common.{◌≡◌, ℕ, ◌<◌, List, [], ◌∷◌, Some, None, refl, sym, ap, ◌∙◌, arith}
use Rattle.std.specs.Prelude.{◌==◌, Option, Result, IfOk, IfErr, ok_or}
use Rattle.std.proofs.lemmas.Bool.{eqb-true}
use Rattle.wasm_num.specs.declared.NumOp.{NumOp}
use Rattle.wasm_num.specs.declared.NumOp.TheVariants.{I32Eqz}
use Rattle.wasm_num.specs.declared.BlockKind.{BlockKind}
use Rattle.wasm_num.specs.declared.BlockKind.TheVariants.{Function}
use Rattle.wasm_num.specs.Kinds.{kind_number, kind_of_number}
use Rattle.wasm_num.specs.Opcodes.{num_opcode, num_of_opcode}
use Rattle.wasm_num.proofs.Opcodes.{found_passes, num_found, num_exact, kind_found, kind_exact}
use Rattle.module_ast.specs.declared.ops.VarOp.{VarOp}
use Rattle.module_ast.specs.declared.ops.VarOp.TheVariants.{Get}
use Rattle.module_ast.specs.declared.ops.LoadOp.{LoadOp}
use Rattle.module_ast.specs.declared.ops.LoadOp.TheVariants.{I32Load}
use Rattle.module_ast.specs.declared.ops.StoreOp.{StoreOp}
use Rattle.module_ast.specs.declared.ops.StoreOp.TheVariants.{I32Store}
use Rattle.module_ast.specs.Binary.{load_opcode, load_of_opcode, store_opcode, store_of_opcode}
use Rattle.module_ast.proofs.Opcodes.{load_found, load_exact, store_found, store_exact}
use Rattle.trace_file.specs.Begins.{BeginsWithSpelling, OnlyBegins, NoneBegins}
use Rattle.trace_file.specs.Fields.{var_number, var_ops, var_of_number}
use Rattle.trace_file.specs.declared.field.ReadTraceFault.{ReadTraceFault}
use Rattle.trace_file.specs.declared.field.ReadTraceFault.TheVariants.{NotTrace}
use Rattle.trace_file.proofs.Apart.{AreApart, only_one, apart_code}

pub record IsCode {A : Type 0} (code : A → ℕ) (of_code : ℕ → Option A) : Type 0 where
  pub found : (x : A) → of_code (code x) ≡ Some x
  pub exact : (n : ℕ) (x : A) → of_code n ≡ Some x → code x ≡ n
  pub small : (x : A) → code x < 256

module _ {A : Type 0} (code : A → ℕ) (of_code : ℕ → Option A) (is : IsCode code of_code) where
  abbrev Any : A → Type 0
  Any x = Unit {0}

  abbrev byte : A → List ℕ
  byte x = code x ∷ []

  abbrev BeginsByte : (bytes rest : List ℕ) → ℕ → Type 0
  BeginsByte = BeginsWithSpelling (λ b. b < 256) (λ b. b ∷ [])

  same_one : (x y : A) → Some x ≡ Some y → x ≡ y
  same_one x y e = cc

  pub apart_codes : AreApart Any byte
  apart_codes = apart_code Any code (λ x y e. same_one x y (sym (is.found x) ∙ ap of_code e ∙ is.found y))

  pub no_byte : (bytes : List ℕ) → NoneBegins (λ (b : ℕ). b < 256) (λ b. b ∷ []) bytes → NoneBegins Any byte bytes
  no_byte bytes none rest x (f, d) = none rest (code x) (is.small x, d)

  other_byte : (n : ℕ) (bytes rest s : List ℕ) (x : A) → bytes ≡ n ∷ rest → of_code n ≡ None → bytes ≡ code x ∷ s → ⊥
  other_byte n bytes rest s x d h e =
      let c : n ∷ rest ≡ code x ∷ s = sym d ∙ e in
      let k : n ≡ code x = cc in
      let t : None ≡ Some x = sym h ∙ ap of_code k ∙ is.found x in
      cc

  -- what is taken where a byte stands in front
  pub byte_told : (bytes rest : List ℕ) (n : ℕ) (r : Result A ReadTraceFault) → BeginsByte bytes rest n → r ≡ ok_or (of_code n) NotTrace
      → IfOk r (λ x. BeginsWithSpelling Any byte bytes rest x) × IfOk r (λ x. OnlyBegins Any byte bytes rest x) × IfErr r (λ fault. fault ≡ NotTrace → NoneBegins Any byte bytes)
  byte_told bytes rest n r (f, d) e = go (of_code n) refl e
    where
      go : (o : Option A) → of_code n ≡ o → r ≡ ok_or o NotTrace
          → IfOk r (λ x. BeginsWithSpelling Any byte bytes rest x) × IfOk r (λ x. OnlyBegins Any byte bytes rest x) × IfErr r (λ fault. fault ≡ NotTrace → NoneBegins Any byte bytes)
      go (Some x) h q =
          let b : BeginsWithSpelling Any byte bytes rest x = (tt, d ∙ ap (λ c. c ∷ rest) (sym (is.exact n x h))) in
          rw q (b, only_one apart_codes bytes rest x b, tt)
      go None h q = rw q (tt, tt, λ _ s x b. other_byte n bytes rest s x d h b.1)

pub kinds : IsCode kind_number kind_of_number
kinds = record { found = kind_found; exact = kind_exact; small = small }
  where
    small : (kind : BlockKind) → kind_number kind < 256
    small Function = omega arith
    small kind = omega arith

pub nums : IsCode num_opcode num_of_opcode
nums = record { found = num_found; exact = num_exact; small = small }
  where
    small : (op : NumOp) → num_opcode op < 256
    small I32Eqz = omega arith
    small op = omega arith

pub loads : IsCode load_opcode load_of_opcode
loads = record { found = load_found; exact = load_exact; small = small }
  where
    small : (op : LoadOp) → load_opcode op < 256
    small I32Load = omega arith
    small op = omega arith

pub stores : IsCode store_opcode store_of_opcode
stores = record { found = store_found; exact = store_exact; small = small }
  where
    small : (op : StoreOp) → store_opcode op < 256
    small I32Store = omega arith
    small op = omega arith

pub vars : IsCode var_number var_of_number
vars = record { found = found; exact = exact; small = small }
  where
    found : (op : VarOp) → var_of_number (var_number op) ≡ Some op
    found Get = refl
    found op = refl

    exact : (n : ℕ) (op : VarOp) → var_of_number n ≡ Some op → var_number op ≡ n
    exact n op h = eqb-true (var_number op) n (found_passes (λ o. var_number o == n) var_ops op h)

    small : (op : VarOp) → var_number op < 256
    small Get = omega arith
    small op = omega arith
