-- How the instructions of live code join.
use Rattle.std.proofs.Common.{◌≡◌, ℕ, ◌+◌, ◌<◌, List, [], ◌∷◌, ◌++◌, length, Bool, true, false, refl, sym, ap, ◌∙◌, subst, arith, append_assoc}
use Rattle.std.proofs.lemmas.List.{map-append}
use Rattle.wasm_sem.specs.Types.{ValType, BlockType, Instr, Hooks}
use Rattle.module_ast.specs.declared.code.Instr.TheVariants.{Block, Loop, If, IfElse, BrIf}
use Rattle.wasm_num.specs.declared.BlockKind.TheVariants as kinds
use Rattle.module_ast.specs.Structure.Trees as tree
use Rattle.hook_select.specs.declared.GroupName.TheVariants as groups
use Rattle.hook_mono.specs.declared.HookKey.TheVariants as keys
use Rattle.rewrite_needs.specs.Temporaries.{plain_temps, open_temps, code_temps}
use Rattle.index_remap.specs.Remap.{map_tree}
use Rattle.index_remap.specs.declared.Remap.{Remap}
use Rattle.module_ast.specs.Lists.{when}
use Rattle.module_ast.specs.Structure.{Tree, done, plain, block, loop, if_then, if_else, Plain, before, onto, plains, instr_of, goes_on_by, IsPlainInstr}
use Rattle.module_ast.specs.Places.{Scope, code_size, ends_live, goes_on, block_scope, loop_scope, if_scope, then_scope, else_scope, left_by}
use Rattle.std.proofs.Common.{Ok, Err, pos}
use Rattle.std.specs.Prelude.{Result, OnOk}
use Rattle.branch_resolve.specs.declared.Block.{Block as Kept}
use Rattle.wasm_num.specs.declared.ValType.TheVariants.{I32}
use Rattle.hook_select.specs.Groups.{has}
use Rattle.i64_split.specs.declared.Temp.{Temp}
use Rattle.i64_split.specs.Split.{HasTemps, temps, words_code}
use Rattle.module_ast.proofs.Each.{all_first, all_second, all_both, all_when}
use Rattle.branch_resolve.specs.Scopes.{block_of, end_of}
use Rattle.hook_mono.specs.Needed.{Site}
use Rattle.i64_split.specs.Pushing.{instrs}
use Rattle.i64_split.specs.declared.Pool.{Pool}
use Rattle.rewrite.specs.Setting.{Setting, remap, constant, tells, tell_end}
use Rattle.rewrite.specs.Templates.{end_code, tell_results, tell_begin, tell_before, tee_code, target_code}
use Rattle.rewrite.specs.Rewrite.{live_code, if_taken, br_if_before}
use Rattle.rewrite.specs.Live.{rest_code}
use Rattle.rewrite.specs.Emitted as emitted
use Rattle.rewrite.specs.Emitted.{HasRoom, template_of, branch_of, PassesNone}
use Rattle.module_ast.proofs.Plains.{the_plain, before_plain, onto_append}

instrs_onto : (is : List Plain) (t : Tree) → onto (instrs is) t ≡ plains is t
instrs_onto [] t = refl
instrs_onto (i ∷ is) t = before_plain i (onto (instrs is) t) ∙ ap (plain i) (instrs_onto is t)

-- plain instructions that were added, before a sequence
pub onto_added : (old new : List Instr) (is : List Plain) (t : Tree) → new ≡ old ++ instrs is → onto new t ≡ onto old (plains is t)
onto_added old new is t e = ap (λ l. onto l t) e ∙ onto_append old (instrs is) t ∙ ap (onto old) (instrs_onto is t)

-- plain instructions, and then others
pub added_two : (old mid new : List Instr) (is js : List Plain) → mid ≡ old ++ instrs is → new ≡ mid ++ instrs js → new ≡ old ++ instrs (is ++ js)
added_two old mid new is js e f = f ∙ ap (λ l. l ++ instrs js) e ∙ append_assoc old (instrs is) (instrs js) ∙ ap (λ l. old ++ l) (sym (map-append instr_of is js))

-- ---- ends

pub ends_before : (i : Instr) (t : Tree) → ends_live true (before i t) ≡ ends_live (goes_on_by i) t
ends_before (If b a) t = refl
ends_before i t = refl

pub ends_dead : (i : Instr) (t : Tree) → ends_live false (before i t) ≡ ends_live false t
ends_dead (If b a) t = refl
ends_dead i t = refl

end_code_inner : (w : Setting) (s : Scope) (ss : List Scope) → 0 < length ss → end_code w (s ∷ ss) ≡ tell_end w s
end_code_inner w s [] h = absurd (omega arith)
end_code_inner w s (r ∷ ss) h = refl

pub closed_live : (w : Setting) (s : Scope) (ss : List Scope) (old new : List Instr) → 0 < length ss → new ≡ old ++ instrs (tell_end w s) → onto new done ≡ onto old (rest_code w (s ∷ ss) true 0 done)
closed_live w s ss old new h e = onto_added old new (tell_end w s) done e ∙ ap (λ c. onto old (plains c done)) (sym (end_code_inner w s ss h))

-- behind the code of the function
pub closed_function : (w : Setting) (f : Scope) (b : Kept) (old mid new : List Instr) → b ≡ block_of f → mid ≡ old ++ instrs (tell_results w b.end) → new ≡ mid ++ instrs (emitted.block_end_code w (end_of b))
    → onto new done ≡ onto old (rest_code w (f ∷ []) true 0 done)
closed_function w f b old mid new is e h =
    onto_added old new (tell_results w (pos f.end) ++ tell_end w f) done
    (added_two old mid new (tell_results w (pos f.end)) (tell_end w f) (e ∙ ap (λ (b : Kept). old ++ instrs (tell_results w b.end)) is) (h ∙ ap (λ (b : Kept). mid ++ instrs (emitted.block_end_code w (end_of b))) is))

-- ---- temporaries

pub room_append : (pool : Pool) (xs ys : List (List ValType)) → HasRoom pool (xs ++ ys) → HasRoom pool xs × HasRoom pool ys
room_append pool xs ys h = (all_first (HasTemps pool 0) xs ys h, all_second (HasTemps pool 0) xs ys h)

module _ (pool : Pool) (hooks : Hooks) (s : Site) (p : ℕ) where
  room_plain : (q : Plain) (t : Tree) (next : ℕ) → next ≡ p + 1 → HasRoom pool (code_temps hooks s p (plain q t))
      → HasRoom pool (code_temps hooks s p (plain q done)) × HasRoom pool (when (goes_on q) (code_temps hooks s next t))
  room_plain q t next e h =
      let r = room_append pool (plain_temps hooks s p q) (when (goes_on q) (code_temps hooks s (p + 1) t)) h in
      (all_both (HasTemps pool 0) (plain_temps hooks s p q) (when (goes_on q) []) r.0 (all_when (HasTemps pool 0) (goes_on q) [] tt), subst (λ n. HasRoom pool (when (goes_on q) (code_temps hooks s n t))) (sym e) r.1)

  -- those before the temporaries of what follows
  room_inside : (tss : List (List ValType)) (t : Tree) (q next : ℕ) → q ≡ next → HasRoom pool (tss ++ code_temps hooks s q t) → HasRoom pool (tss ++ []) × HasRoom pool (code_temps hooks s next t)
  room_inside tss t q next e h =
      let r = room_append pool tss (code_temps hooks s q t) h in
      (all_both (HasTemps pool 0) tss [] r.0 tt, subst (λ n. HasRoom pool (code_temps hooks s n t)) e r.1)

  -- of the instruction, and of what follows it
  pub room_before : (i : Instr) (t : Tree) (next : ℕ) → next ≡ p + code_size (before i done) → HasRoom pool (code_temps hooks s p (before i t))
      → HasRoom pool (code_temps hooks s p (before i done)) × HasRoom pool (when (goes_on_by i) (code_temps hooks s next t))
  room_before (Block b a) t next e h = room_inside (code_temps hooks s (p + 1) a) t (p + code_size a + 2) next (omega arith) h
  room_before (Loop b a) t next e h = room_inside (code_temps hooks s (p + 1) a) t (p + code_size a + 2) next (omega arith) h
  room_before (If b a) t next e h =
      let opens = open_temps hooks kinds.If in
      let first = code_temps hooks s (p + 1) a in
      let q = room_append pool opens (first ++ code_temps hooks s (p + code_size a + 2) t) h in
      let r = room_inside first t (p + code_size a + 2) next (omega arith) q.1 in
      (all_both (HasTemps pool 0) opens (first ++ []) q.0 r.0, r.1)
  room_before (IfElse b a o) t next e h =
      let opens = open_temps hooks kinds.If in
      let first = code_temps hooks s (p + 1) a in
      let second = code_temps hooks s (p + code_size a + 2) o in
      let third = code_temps hooks s (p + code_size a + code_size o + 3) t in
      let q = room_append pool opens (first ++ (second ++ third)) h in
      let r = room_append pool first (second ++ third) q.1 in
      let u = room_inside second t (p + code_size a + code_size o + 3) next (omega arith) r.1 in
      (all_both (HasTemps pool 0) opens (first ++ (second ++ [])) q.0 (all_both (HasTemps pool 0) first (second ++ []) r.0 u.0), u.1)
  room_before i t next e h = room_plain (the_plain i) t next e h

-- ---- blocks

-- a part of a body, with its begin before it
abbrev pub part_code : Setting → List Scope → Scope → (p : ℕ) → Tree → Tree
part_code w ss s p code = plains (tell_begin w s.begin s.kind) (live_code w (s ∷ ss) p code)

-- What is made of a sequence behind what was taken: F before a step, G after it.
module _ {X : Type 0} (F G : Tree → X) (w : Setting) (ss : List Scope) (p : ℕ) (ty : BlockType) (body : Tree) (i : Instr) (next : ℕ) (t : Tree) where
  pub block_added : i ≡ Block ty body → next ≡ p + code_size body + 1 + 1 → ((t : Tree) → G t ≡ F (block ty (part_code w ss (block_scope p body) (p + 1) body) t))
      → G (rest_code w ss (goes_on_by i) next t) ≡ F (live_code w ss p (before i t))
  block_added is n put =
      subst (λ i. G (rest_code w ss (goes_on_by i) next t) ≡ F (live_code w ss p (before i t))) (sym is)
      (put (live_code w ss next t) ∙ ap (λ q. F (block ty (part_code w ss (block_scope p body) (p + 1) body) (live_code w ss q t))) n)

  pub loop_added : i ≡ Loop ty body → next ≡ p + code_size body + 1 + 1 → ((t : Tree) → G t ≡ F (loop ty (part_code w ss (loop_scope p body) (p + 1) body) t))
      → G (rest_code w ss (goes_on_by i) next t) ≡ F (live_code w ss p (before i t))
  loop_added is n put =
      subst (λ i. G (rest_code w ss (goes_on_by i) next t) ≡ F (live_code w ss p (before i t))) (sym is)
      (put (live_code w ss next t) ∙ ap (λ q. F (loop ty (part_code w ss (loop_scope p body) (p + 1) body) (live_code w ss q t))) n)

module _ {X : Type 0} (F M G : Tree → X) (w : Setting) (ss : List Scope) (p : ℕ) (ty : BlockType) (body other : Tree) (next : ℕ) (t : Tree)
    (told : (t : Tree) → M t ≡ F (plains (tell_before w p (keys.Plain groups.If)) t)) where
  pub then_added : next ≡ p + code_size body + 1 + 1 → ((t : Tree) → G t ≡ M (if_then ty (part_code w ss (if_scope p body) (p + 1) body) t))
      → G (live_code w ss next t) ≡ F (live_code w ss p (if_then ty body t))
  then_added n put =
      put (live_code w ss next t) ∙ ap (λ q. M (if_then ty (part_code w ss (if_scope p body) (p + 1) body) (live_code w ss q t))) n ∙ told _

  pub both_added : next ≡ p + code_size body + 1 + code_size other + 1 + 1
      → ((t : Tree) → G t ≡ M (if_else ty (part_code w ss (then_scope p body other) (p + 1) body) (part_code w ss (else_scope p body other) (p + code_size body + 1 + 1) other) t))
      → G (live_code w ss next t) ≡ F (live_code w ss p (if_else ty body other t))
  both_added n put =
      put (live_code w ss next t)
      ∙ ap (λ q. M (if_else ty (part_code w ss (then_scope p body other) (p + 1) body) (part_code w ss (else_scope p body other) (p + code_size body + 1 + 1) other) (live_code w ss q t))) n
      ∙ told _

pub both_room : (pool : Pool) (xs ys zs : List (List ValType)) → HasRoom pool (xs ++ (ys ++ (zs ++ []))) → HasRoom pool ys × HasRoom pool zs
both_room pool xs ys zs h =
    let r = room_append pool ys (zs ++ []) (room_append pool xs (ys ++ (zs ++ [])) h).1 in
    (r.0, (room_append pool zs [] r.1).0)

-- ---- an instruction with no sequence in it

pub plain_added : {X : Type 0} (F G : Tree → X) (w : Setting) (ss : List Scope) (p : ℕ) (i : Instr) (t : Tree) → IsPlainInstr i → PassesNone i → ((t : Tree) → G t ≡ F (plains (template_of w ss p i) t))
    → G (rest_code w ss (goes_on_by i) (p + 1) t) ≡ F (live_code w ss p (before i t))
plain_added F G w ss p (Block b a) t h n put = absurd h
plain_added F G w ss p (Loop b a) t h n put = absurd h
plain_added F G w ss p (If b a) t h n put = absurd h
plain_added F G w ss p (IfElse b a o) t h n put = absurd h
plain_added F G w ss p (BrIf l) t h n put = absurd n
plain_added F G w ss p i t h n put = put (rest_code w ss (goes_on_by i) (p + 1) t)

-- one that passes ends, and the hook calls before it
pub plains_joined : (is js : List Plain) (t : Tree) → plains (is ++ js) t ≡ plains is (plains js t)
plains_joined [] js t = refl
plains_joined (i ∷ is) js t = ap (plain i) (plains_joined is js t)

pub passed_added : {X : Type 0} (F M N G : Tree → X) (told passed : List Plain) (i : Plain) (t : Tree)
    → ((t : Tree) → M t ≡ F (plains told t)) → ((t : Tree) → N t ≡ M (plains passed t)) → ((t : Tree) → G t ≡ N (plain i t)) → G t ≡ F (plains (told ++ (passed ++ i ∷ [])) t)
passed_added F M N G told passed i t first second third =
    third t ∙ second (plain i t) ∙ first (plains passed (plain i t)) ∙ ap F (sym (plains_joined told (passed ++ i ∷ []) t ∙ ap (plains told) (plains_joined passed (i ∷ []) t)))

-- as a branch or a call, whatever the blocks around it
pub arm : {E : Type 0} (r : Result (Unit {0}) E) (w : Setting) (p : ℕ) (i j : Instr) (old new : List Instr) → i ≡ j
    → ((ss : List Scope) → OnOk r (new ≡ old ++ instrs (branch_of w ss p j))) → OnOk r ((ss : List Scope) → new ≡ old ++ instrs (branch_of w ss p i))
arm (Ok v) w p i j old new is h = λ ss. subst (λ k. new ≡ old ++ instrs (branch_of w ss p k)) (sym is) (h ss)
arm (Err e) w p i j old new is h = tt

-- a br_if, and what stands before it
module _ {X : Type 0} (F M N G : Tree → X) (w : Setting) (ss : List Scope) (p l : ℕ) (ts : List Temp) (k : Tree) where
  pub branch_added : ((t : Tree) → M t ≡ F (plains (tee_code ts) (plains (tells w (pos p) (keys.Plain groups.BrIf) (constant l ∷ target_code ss l ∷ words_code ts)) t)))
      → ((t : Tree) → N t ≡ M (if_taken (has w.hooks groups.End) w (left_by ss l) ts t)) → ((t : Tree) → G t ≡ N (plain (tree.br_if l) t)) → ts ≡ temps w.pool (I32 ∷ []) → G k ≡ F (br_if_before true w ss p l k)
  branch_added first second third is =
      third k ∙ second (plain (tree.br_if l) k) ∙ first (if_taken (has w.hooks groups.End) w (left_by ss l) ts (plain (tree.br_if l) k))
      ∙ ap (λ ts. F (plains (tee_code ts) (plains (tells w (pos p) (keys.Plain groups.BrIf) (constant l ∷ target_code ss l ∷ words_code ts)) (if_taken (has w.hooks groups.End) w (left_by ss l) ts (plain (tree.br_if l) k))))) is

-- ---- a sequence

module _ {X : Type 0} (F M G : Tree → X) (w : Setting) (ss : List Scope) (p at : ℕ) (live : Bool) (i : Instr) (now rest all : Tree) (n : now ≡ before i rest) where
  pub so_far_live : (next : ℕ) (go : Bool) → live ≡ true → go ≡ goes_on_by i → ((t : Tree) → G (rest_code w ss (goes_on_by i) next t) ≡ M (live_code w ss at (before i t)))
      → M (rest_code w ss live at now) ≡ F (live_code w ss p all) → G (rest_code w ss go next rest) ≡ F (live_code w ss p all)
  so_far_live next go l g step so_far =
      ap (λ b. G (rest_code w ss b next rest)) g ∙ step rest ∙ ap M (ap (live_code w ss at) (sym n) ∙ ap (λ b. rest_code w ss b at now) (sym l)) ∙ so_far

  pub so_far_dead : (copy : Instr) → live ≡ false → ((t : Tree) → G t ≡ M (before copy t)) → ((t : Tree) → before copy (map_tree (remap w) t) ≡ map_tree (remap w) (before i t))
      → M (rest_code w ss live at now) ≡ F (live_code w ss p all) → G (rest_code w ss live at rest) ≡ F (live_code w ss p all)
  so_far_dead copy l put step so_far =
      ap (λ b. G (rest_code w ss b at rest)) l
      ∙ put (map_tree (remap w) rest) ∙ ap M (step rest ∙ ap (map_tree (remap w)) (sym n) ∙ ap (λ b. rest_code w ss b at now) (sym l)) ∙ so_far

pub remap_is : (r : Remap) (w : Setting) (n : ℕ) → record { imports = r.imports; added = n } ≡ remap w → r.added ≡ n → remap w ≡ r
remap_is r w n v e = sym v ∙ ap (λ m. let x : Remap = record { imports = r.imports; added = m } in x) (sym e)
