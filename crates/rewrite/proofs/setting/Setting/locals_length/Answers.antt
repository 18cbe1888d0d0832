use Rattle.std.proofs.Common.{◌≡◌, ◌∙◌, ◌+◌, ◌++◌, List, length, length-append, ap, arith}
use Rattle.leb_binary.specs.Shortest.{unsigned_bytes}
use Rattle.wasm_sem.specs.Types.{Group, Body}
use Rattle.module_ast.specs.Binary.{group_bytes, items_bytes}
use Rattle.i64_split.specs.Split.{pool_groups}
use Rattle.rewrite.specs.Setting.{Setting}
use Rattle.rewrite.proofs.BodyMost.{items_append}
use Rattle.rewrite.proofs.setting.Setting.locals_length.Goals as goal

pub returns : goal.returns
returns c =
    let w = c.args.self.now in
    let own = w.site.body.groups in
    let added = pool_groups w.pool in
    let first : c.as_slice-own.result.now ≡ own = c.as_slice-own.ensures ∙ ap (λ (b : Body). b.groups) (c.body.ensures ∙ ap (λ (x : Setting). x.site.body) c.self.view_is) in
    let second : c.deref.result.now ≡ added =
    c.deref.ensures.value ∙ c.in_ok-push_groups.ensures.added ∙ ap (λ (l : List Group). l ++ pool_groups c.self.inside.pool) c.new-added.ensures.items
    ∙ ap (λ (x : Setting). pool_groups x.pool) c.self.view_is in
    let count : length c.as_slice-own.result.now + c.len.result ≡ length (own ++ added) =
    omega (arith, ap (λ (l : List Group). length l) first, ap (λ (l : List Group). length l) second, c.len.ensures, c.deref.ensures.len, length-append own added) in
    record {
      length = omega (
        arith,
        c.unsigned_length-count.ensures.value,
        ap (λ n. length (unsigned_bytes n)) count,
        c.groups_length.ensures.length,
        ap (λ (l : List Group). length (items_bytes group_bytes l)) first,
        c.groups_length-2.ensures.length,
        ap (λ (l : List Group). length (items_bytes group_bytes l)) second,
        length-append (unsigned_bytes (length (own ++ added))) (items_bytes group_bytes (own ++ added)),
        items_append own added,
      );
    }
