-- Number instructions are found by their opcodes, and kinds of block by their numbers.
use Rattle.std.proofs.Common.{◌≡◌, ℕ, List, [], ◌∷◌, Some, None, refl, subst}
use Rattle.std.specs.Prelude.{◌==◌, Bool, true, false, cond, find}
use Rattle.std.proofs.lemmas.Bool.{eqb-true}
use Rattle.wasm_num.specs.declared.BlockKind.{BlockKind}
use Rattle.wasm_num.specs.declared.BlockKind.TheVariants.{Function}
use Rattle.wasm_num.specs.declared.NumOp.{NumOp}
use Rattle.wasm_num.specs.declared.NumOp.TheVariants.{I32Eqz}
use Rattle.wasm_num.specs.Kinds.{all_kinds, kind_number, kind_of_number}
use Rattle.wasm_num.specs.Opcodes.{num_ops, num_opcode, num_of_opcode}

-- what is found passes the test
pub found_passes : {A : Type 0} (p : A → Bool) (xs : List A) (x : A) → find p xs ≡ Some x → p x ≡ true
found_passes p [] x h = cc
found_passes p (y ∷ ys) x h = go (p y) refl h (found_passes p ys x)
  where
    go : (b : Bool) → p y ≡ b → cond b (Some y) (find p ys) ≡ Some x → (find p ys ≡ Some x → p x ≡ true) → p x ≡ true
    go true e h later = let is : y ≡ x = cc in subst (λ z. p z ≡ true) is e
    go false e h later = later h

-- nothing is found where what would be found cannot stand
pub found_none : {A : Type 0} (p : A → Bool) (xs : List A) → ((x : A) → p x ≡ true → ⊥) → find p xs ≡ None
found_none p [] never = refl
found_none p (x ∷ xs) never = go (p x) refl (found_none p xs never)
  where
    go : (b : Bool) → p x ≡ b → find p xs ≡ None → cond b (Some x) (find p xs) ≡ None
    go true e later = absurd (never x e)
    go false e later = later

pub num_found : (op : NumOp) → num_of_opcode (num_opcode op) ≡ Some op
num_found I32Eqz = refl
num_found op = refl

pub num_exact : (opcode : ℕ) (op : NumOp) → num_of_opcode opcode ≡ Some op → num_opcode op ≡ opcode
num_exact opcode op h = eqb-true (num_opcode op) opcode (found_passes (λ o. num_opcode o == opcode) num_ops op h)

-- nothing is found where no instruction has the opcode
pub num_none : (opcode : ℕ) → ((op : NumOp) → num_opcode op ≡ opcode → ⊥) → num_of_opcode opcode ≡ None
num_none opcode never = found_none (λ op. num_opcode op == opcode) num_ops (λ op h. never op (eqb-true (num_opcode op) opcode h))

pub kind_found : (kind : BlockKind) → kind_of_number (kind_number kind) ≡ Some kind
kind_found Function = refl
kind_found kind = refl

pub kind_exact : (number : ℕ) (kind : BlockKind) → kind_of_number number ≡ Some kind → kind_number kind ≡ number
kind_exact number kind h = eqb-true (kind_number kind) number (found_passes (λ k. kind_number k == number) all_kinds kind h)
