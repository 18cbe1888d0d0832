-- A module that was read, from no more bytes than a file has and within limits on its nesting, is whole.
use Rattle.std.proofs.Common.{ℕ, ◌≤◌, List, length, arith}
use Rattle.std.proofs.lemmas.List.Elements.{All-weaker}
use Rattle.module_ast.specs.declared.module.Body.{Body}
use Rattle.module_ast.specs.declared.module.Module.{Module}
use Rattle.module_ast.specs.declared.module.Limits.{Limits}
use Rattle.module_ast.specs.declared.module.Which.TheVariants.{Nesting}
use Rattle.module_ast.specs.Binary.{Gram, FitsIndex, FitsBody, locals_of, limited_counts, IsWithin}
use Rattle.module_ast.specs.Validation.{IsWhole, deepest, longest_file}
use Rattle.module_ast.proofs.LeastModules.{module_least}
use Rattle.module_ast.proofs.ReadFits.{read_fits}
use Rattle.module_ast.proofs.Sizes.{within_more}

pub read_whole : (limits : Limits) (bytes : List ℕ) (m : Module) → length bytes ≤ longest_file → limits.nesting ≤ deepest → Gram bytes m → IsWithin limits m → IsWhole m
read_whole limits bytes m short nesting gram within =
    let fits = read_fits bytes m gram (omega arith) in
    record {
      bodies = fits.counts;
      locals = All-weaker FitsBody (λ (b : Body). FitsIndex (locals_of b.groups)) (λ b f. f.locals) m.bodies fits.bodies;
      nesting = within_more limits.nesting deepest (limited_counts m Nesting) nesting (within Nesting);
      size = omega (arith, module_least bytes m gram);
    }
