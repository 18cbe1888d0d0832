-- Open sequences, each with the instructions before it, laid out on one stack of instructions.
use Rattle.std.proofs.Common.{◌≡◌, ℕ, suc, ◌+◌, ◌≤◌, ◌⊎◌, inl, inr, List, [], ◌∷◌, ◌++◌, length, refl, sym, ap, ◌∙◌, arith, append_assoc, length-append}
use Rattle.std.specs.Prelude.{take, drop}
use Rattle.std.proofs.lemmas.List.{same_from_push}
use Rattle.std.proofs.Math.Seq.{take-append_seam, drop-append_seam}
use Rattle.module_ast.specs.declared.code.Instr.{Instr}
use Rattle.code_decode.specs.declared.token.Kind.{Kind}
use Rattle.code_decode.specs.declared.expr.Frame.{Frame}

-- a sequence that is open, and the instructions before it in the one around it
pub record Layer : Type 0 where
  pub before : List Instr
  pub kind : Kind

abbrev pub layer : List Instr → Kind → Layer
layer is kind = record { before = is; kind = kind }

abbrev pub frame : ℕ → Kind → Frame
frame start kind = record { start = start; kind = kind }

-- where each begins, over so many instructions
abbrev pub frames : ℕ → List Layer → List Frame
frames n [] = []
frames n (l ∷ ls) = frame (n + length l.before) l.kind ∷ frames (n + length l.before) ls

-- the instructions of all, with those of the innermost
abbrev pub stack_of : List Layer → List Instr → List Instr
stack_of [] is = is
stack_of (l ∷ ls) is = l.before ++ stack_of ls is

pub stack_push : (ls : List Layer) (l : Layer) (is : List Instr) → stack_of (ls ++ l ∷ []) is ≡ stack_of ls l.before ++ is
stack_push [] l is = refl
stack_push (k ∷ ls) l is = ap (λ j. k.before ++ j) (stack_push ls l is) ∙ sym (append_assoc k.before (stack_of ls l.before) is)

pub stack_more : (ls : List Layer) (is js : List Instr) → stack_of ls (is ++ js) ≡ stack_of ls is ++ js
stack_more [] is js = refl
stack_more (k ∷ ls) is js = ap (λ j. k.before ++ j) (stack_more ls is js) ∙ sym (append_assoc k.before (stack_of ls is) js)

frames_push : (n : ℕ) (ls : List Layer) (l : Layer) → frames n (ls ++ l ∷ []) ≡ frames n ls ++ frame (n + length (stack_of ls l.before)) l.kind ∷ []
frames_push n [] l = refl
frames_push n (k ∷ ls) l =
    let m = n + length k.before in
    let e : m + length (stack_of ls l.before) ≡ n + length (k.before ++ stack_of ls l.before) = omega (arith, length-append k.before (stack_of ls l.before)) in
    ap (λ fs. frame m k.kind ∷ fs) (frames_push m ls l ∙ ap (λ s. frames m ls ++ frame s l.kind ∷ []) e)

-- a list is empty or has a last item
pub at_last : {A : Type 0} (xs : List A) → (xs ≡ []) ⊎ ((init : List A) × (last : A) × (xs ≡ init ++ last ∷ []))
at_last [] = inl refl
at_last (x ∷ xs) =
    elim (at_last xs) [
      | inl e ↦ inr ([], x, ap (λ l. x ∷ l) e)
      | inr r ↦ inr (x ∷ r.0, r.1, ap (λ l. x ∷ l) r.2)
    ]

pub frames_last : (ls : List Layer) (l : Layer) → frames 0 (ls ++ l ∷ []) ≡ frames 0 ls ++ frame (length (stack_of ls l.before)) l.kind ∷ []
frames_last ls l = frames_push 0 ls l ∙ ap (λ n. frames 0 ls ++ frame n l.kind ∷ []) (omega arith)

pub frames_length : (n : ℕ) (ls : List Layer) → length (frames n ls) ≡ length ls
frames_length n [] = refl
frames_length n (l ∷ ls) = ap suc (frames_length (n + length l.before) ls)

pub no_layers : (ls : List Layer) → frames 0 ls ≡ [] → ls ≡ []
no_layers [] e = refl
no_layers (l ∷ ls) e = cc

-- the innermost of open sequences, by its frame
pub record Top (ls : List Layer) (fs : List Frame) (f : Frame) : Type 0 where
  pub outer : List Layer
  pub last : Layer
  pub split : ls ≡ outer ++ last ∷ []
  pub is_outer : fs ≡ frames 0 outer
  pub start : f.start ≡ length (stack_of outer last.before)
  pub kind : f.kind ≡ last.kind

pub top : (ls : List Layer) (fs : List Frame) (f : Frame) → fs ++ f ∷ [] ≡ frames 0 ls → Top ls fs f
top ls fs f e =
    elim (at_last ls) [
      | inl n ↦ absurd (no_push fs f (e ∙ ap (frames 0) n))
      | inr (outer, last, q) ↦
          let g = frame (length (stack_of outer last.before)) last.kind in
          let w = same_from_push fs (frames 0 outer) f g (e ∙ ap (frames 0) q ∙ frames_last outer last) in
          record { outer = outer; last = last; split = q; is_outer = w.0; start = ap (λ (h : Frame). h.start) w.1; kind = ap (λ (h : Frame). h.kind) w.1 }
    ]
  where
    no_push : (gs : List Frame) (g : Frame) → gs ++ g ∷ [] ≡ [] → ⊥
    no_push [] g e = cc
    no_push (h ∷ hs) g e = cc

-- its instructions, and those before it
module _ (ls : List Layer) (fs : List Frame) (f : Frame) (t : Top ls fs f) (is xs : List Instr) (e : xs ≡ stack_of ls is) where
  top_split : xs ≡ stack_of t.outer t.last.before ++ is
  top_split = e ∙ ap (λ l. stack_of l is) t.split ∙ stack_push t.outer t.last is

  pub top_within : f.start ≤ length xs
  top_within = omega (arith, t.start, ap length top_split, length-append (stack_of t.outer t.last.before) is)

  pub top_take : take f.start xs ≡ stack_of t.outer t.last.before
  top_take = rw (t.start, top_split) (take-append_seam (stack_of t.outer t.last.before) is)

  pub top_drop : drop f.start xs ≡ is
  top_drop = rw (t.start, top_split) (drop-append_seam (stack_of t.outer t.last.before) is)
