use Rattle.std.proofs.Common.{◌≡◌, ◌∙◌, sym, ap, slice_get, leb, rules, Bor, Option, Some, None, MatchOption}
use Rattle.std.specs.List.{HoldsAt}
use Rattle.std.specs.Option.{IsSomeAnd, option_map, option_copied}
use Rattle.std.proofs.lemmas.List.Sorted.{IsPartitionPoint-from_clause, IsPartitionedBy-leb}
use Rattle.module_ast.proofs.Lookups.{copied_at}
use Rattle.wasm_num.specs.declared.ValType.{ValType}
use Rattle.code_valid.specs.declared.locals.Run.{Run}
use Rattle.code_valid.specs.Locals.{RiseFrom, types_from}
use Rattle.code_valid.proofs.Runs.{rises, type_found}
use Rattle.code_valid.proofs.locals.Locals.get.Goals as goal

-- what `map` answers where each call gives the run's type
type_of : (P : Bor Run → ValType → Type 0) (o : Option (Bor Run)) (r : Option ValType) → ((x : Bor Run) (t : ValType) → P x t → t ≡ x.now.ty)
    → MatchOption o (r ≡ None) (λ x. IsSomeAnd r (P x)) → r ≡ option_map (λ (r : Run). r.ty) (option_copied o)
type_of P None r gives is = is
type_of P (Some x) None gives is = absurd is
type_of P (Some x) (Some t) gives is = ap Some (gives x t is)

pub returns : goal.returns
returns c =
    let runs = c.as_slice-runs.result.now in
    let before = c.partition_point-before.result in
    let up : RiseFrom 0 runs = rw c.as_slice-runs.ensures.value c.self.invariant in
    let parted = IsPartitionedBy-leb (λ (r : Run). r.end) runs c.args.index (rises 0 runs up) in
    let point = IsPartitionPoint-from_clause (λ (r : Run). leb r.end c.args.index) runs before c.partition_point-before.ensures.partitioned parted (λ a r q k. search rules) in
    let found = copied_at (λ x. HoldsAt (λ y. x.now ≡ y) runs before) c.get.result runs before c.get.ensures.lookup.1 c.get.ensures.lookup.3 in
    let all : types_from 0 runs ≡ c.args.self.now = rw c.as_slice-runs.ensures.value c.self.view_is in
    type_of _ c.get.result c.map.result (λ x t p. search rules) c.map.ensures.cases
    ∙ ap (option_map (λ (r : Run). r.ty)) found
    ∙ sym (type_found runs c.args.index before up point)
    ∙ ap (λ l. slice_get l c.args.index) all
