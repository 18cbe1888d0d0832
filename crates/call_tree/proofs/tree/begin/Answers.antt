use Rattle.std.proofs.Common.{◌≡◌, ◌+◌, [], ◌∷◌, ◌++◌, map, ap, sym, ◌∙◌, subst, rules}
use Rattle.std.proofs.lemmas.List.{reverse-append}
use Rattle.wasm_sem.specs.Nests.{Bracket, bracket}
use Rattle.call_tree.specs.declared.tree.Open.{Open}
use Rattle.call_tree.specs.Counts.{path_counts, with_path, CountsPathsUpTo}
use Rattle.call_tree.specs.Paths.{is_function}
use Rattle.call_tree.specs.State.{bracket_of, counted_from, brackets_of, IsNodePlace}
use Rattle.call_tree.proofs.States.{counts_rise, counts_stay, counts_with, path_split, path_with, path_same, other_begun, function_begun, not_function}
use Rattle.call_tree.proofs.tree.begin.Goals as goal
use Rattle.call_tree.proofs.tree.begin.Goals.{in-Function+in_ok-place-in-Function, in_default, After-unwrap}

pub returns-clause-counted : goal.returns-clause-counted
returns-clause-counted c =
    let es = c.args.table.now in
    let brackets = brackets_of c.args.opened.now.items in
    let func = c.args.loc.func in
    elim c.match-kind.branch [
      | in-Function+in_ok-place-in-Function w ↦
          ap path_counts (w.table-is ∙ w.in_ok-place-in-Function.ensures.counted)
          ∙ (counts_with _ es
          ∙ (ap (with_path (path_counts es)) (ap (λ p. p ++ func ∷ []) c.requires.there.1 ∙ sym (path_split brackets (func ∷ [])))
          ∙ sym (ap (counted_from (path_counts es)) (function_begun brackets c.args.loc c.args.kind w.in-Function.is))))
      | in_default w ↦
          ap path_counts w.table-is
          ∙ sym (ap (counted_from (path_counts es)) (other_begun brackets c.args.loc c.args.kind (not_function c.args.kind w.in_default.not-Function)))
    ]

opened : (c : After-unwrap) → brackets_of c.push.new.self.items ≡ bracket c.args.loc.func c.args.kind c.args.loc.instr ∷ brackets_of c.args.opened.now.items
opened c =
    let o : Open = record { func = c.args.loc.func; kind = c.args.kind; begin = c.args.loc.instr } in
    let pushed : c.push.new.self.items ≡ c.reserve.new.self.items ++ o ∷ [] = search rules in
    ap brackets_of (pushed ∙ ap (λ l. l ++ o ∷ []) c.in_ok-reserve.ensures.items) ∙ ap (map bracket_of) (reverse-append c.args.opened.now.items (o ∷ []))

pub returns-clause-there : goal.returns-clause-there
returns-clause-there c =
    let es = c.args.table.now in
    let brackets = brackets_of c.args.opened.now.items in
    let func = c.args.loc.func in
    let b : Bracket = bracket func c.args.kind c.args.loc.instr in
    subst (λ bs. IsNodePlace c.match-kind.table bs c.match-kind.place) (sym (opened c)) (elim c.match-kind.branch [
      | in-Function+in_ok-place-in-Function w ↦
          let there = w.in_ok-place-in-Function.ensures.there in
          subst (λ v. IsNodePlace v (b ∷ brackets) c.match-kind.place) (sym w.table-is) (subst (IsNodePlace w.visit.new.self (b ∷ brackets)) (sym w.place-is) (
            there.0,
            there.1 ∙ (ap (λ p. p ++ func ∷ []) c.requires.there.1 ∙ sym (path_with brackets b (ap is_function w.in-Function.is))),
          ))
      | in_default w ↦
          subst (λ v. IsNodePlace v (b ∷ brackets) c.match-kind.place) (sym w.table-is) (subst (IsNodePlace es (b ∷ brackets)) (sym w.place-is) (
            c.requires.there.0,
            c.requires.there.1 ∙ sym (path_same brackets b (not_function c.args.kind w.in_default.not-Function)),
          ))
    ])

pub returns-clause-bound : goal.returns-clause-bound
returns-clause-bound c = λ n bound. elim c.match-kind.branch [
  | in-Function+in_ok-place-in-Function w ↦
      subst (CountsPathsUpTo (n + 1)) (sym (w.table-is ∙ w.in_ok-place-in-Function.ensures.counted)) (counts_rise n _ c.args.table.now bound)
  | in_default w ↦ subst (CountsPathsUpTo (n + 1)) (sym w.table-is) (counts_stay n c.args.table.now bound)
]
