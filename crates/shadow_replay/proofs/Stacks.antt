-- Frames and how they are kept: what is kept is read again, and what a change of it reads as.
use Rattle.std.proofs.Common.{◌≡◌, ℕ, ◌+◌, ◌-◌, ◌<◌, ◌≤◌, suc, negsuc, List, [], ◌∷◌, ◌++◌, Bool, length, map, take, drop, get_or, set, refl, sym, ap, ◌∙◌, subst, arith, length-append, append_assoc}
use Rattle.std.specs.Prelude.{reverse}
use Rattle.std.proofs.lemmas.List.{reverse-append, length-reverse, length-drop, length-map, take-append-drop, take_at, drop_at, set_at, length-take-le, drop-append-le, take_more, take_more_set, take_all, map-append, map-set, drop-map}
use Rattle.wasm_sem.specs.Types.{Value}
use Rattle.wasm_num.specs.declared.BlockKind.TheVariants as kinds
use Rattle.shadow_replay.specs.Taint.{set_first}
use Rattle.shadow_replay.specs.declared.marked.Marked.{Marked}
use Rattle.shadow_replay.specs.Shadow.{ShadowLabel, ShadowFrame}
use Rattle.shadow_replay.specs.Stacked.{values_in, marks_in, KeptLabel, KeptFrame, labels_from, frame_from, frames_from, labels_in, operands_in, labels_kept, AreKeptFrames, AreFramesKept, Standing, standing, AreWellKept, Has, HasLocal, IsNested, IsOutermost, frame_entered, frame_left, local_set_in, local_set, exchanged_in, exchanged, closed_labels, label_closed_in, label_closed, label_landed, label_opened_in, label_opened, operand_count}

-- ---- lists seen from their other end

pub reverse-take : {A : Type 0} (n : ℕ) (xs : List A) → reverse (take n xs) ≡ drop (length xs - n) (reverse xs)
reverse-take n xs =
    let split : reverse xs ≡ reverse (drop n xs) ++ reverse (take n xs) = ap reverse (sym (take-append-drop n xs)) ∙ reverse-append (take n xs) (drop n xs) in
    let size : length (reverse (drop n xs)) ≡ length xs - n = length-reverse (drop n xs) ∙ length-drop n xs in
    sym (ap (drop (length xs - n)) split ∙ drop_at (reverse (drop n xs)) (reverse (take n xs)) (length xs - n) size)

-- so many go off the top
pub reverse-cut : {A : Type 0} (xs ys : List A) (n len : ℕ) → len ≡ length xs → n ≤ length xs → ys ≡ take (len - n) xs → reverse ys ≡ drop n (reverse xs)
reverse-cut xs ys n len e h g =
    let size : length xs - (len - n) ≡ n = omega (arith, e, h) in
    ap reverse g ∙ (reverse-take (len - n) xs ∙ ap (λ k. drop k (reverse xs)) size)

-- ---- what is kept is read again

pub spots_length : (ls : List ShadowLabel) → length (labels_kept ls) ≡ length ls
spots_length [] = refl
spots_length (l ∷ ls) = ap suc (spots_length ls)

-- the operands of the first label, and those below
cut_top : (a b : List Value) → length (a ++ b) - length b ≡ length a
cut_top a b = omega (arith, length-append a b)

labels_read : (ls : List ShadowLabel) → labels_from (operands_in ls) (labels_kept ls) ≡ ls
labels_read [] = refl
labels_read (l ∷ ls) =
    let n = length (l.ops ++ operands_in ls) - length (operands_in ls) in
    let size : length l.ops ≡ n = sym (cut_top l.ops (operands_in ls)) in
    ap (λ ops. record l { ops = ops } ∷ labels_from (drop n (l.ops ++ operands_in ls)) (labels_kept ls)) (take_at l.ops (operands_in ls) n size)
    ∙ ap (λ vs. l ∷ labels_from vs (labels_kept ls)) (drop_at l.ops (operands_in ls) n size)
    ∙ ap (λ ks. l ∷ ks) (labels_read ls)

frames_read : (fs : List ShadowFrame) (bs : List KeptFrame) → AreKeptFrames bs fs → frames_from (labels_in fs) bs ≡ fs
frames_read [] [] h = refl
frames_read [] (b ∷ bs) h = absurd h
frames_read (fr ∷ below) [] h = absurd h
frames_read (fr ∷ below) (b ∷ bs) h =
    let own = fr.top ∷ fr.outer in
    let all = own ++ labels_in below in
    let n = length all - b.labels in
    let size : length own ≡ n = omega (arith, length-append own (labels_in below), h.2) in
    ap (λ ls. frame_from b ls ∷ frames_from (drop n all) bs) (take_at own (labels_in below) n size)
    ∙ ap (λ ls. frame_from b own ∷ frames_from ls bs) (drop_at own (labels_in below) n size)
    ∙ ap (λ fs. frame_from b own ∷ fs) (frames_read below bs h.3)
    ∙ ap (λ f. (let r : ShadowFrame = record { func = f; locals = values_in b.locals; top = fr.top; outer = fr.outer } in r) ∷ below) h.0
    ∙ ap (λ vs. (let r : ShadowFrame = record { func = fr.func; locals = vs; top = fr.top; outer = fr.outer } in r) ∷ below) h.1

pub lies_read : (vs : List Value) (ss : List KeptLabel) (bs : List KeptFrame) (fs : List ShadowFrame) → AreFramesKept vs ss bs fs → frames_from (labels_from vs ss) bs ≡ fs
lies_read vs ss bs fs h =
    ap (λ vs. frames_from (labels_from vs ss) bs) h.values ∙ ap (λ ss. frames_from (labels_from (operands_in (labels_in fs)) ss) bs) h.labels
    ∙ ap (λ ls. frames_from ls bs) (labels_read (labels_in fs)) ∙ frames_read fs bs h.frames

-- what stands then
abbrev local_marks : List KeptFrame → List (List Bool)
local_marks bs = map (λ (b : KeptFrame). marks_in b.locals) bs

pub record Stands (os : List Marked) (ss : List KeptLabel) (bs : List KeptFrame) (st : Standing) : Type 0 where
  pub kept : AreWellKept os ss bs
  pub is : standing os ss bs ≡ st

pub stands : (os : List Marked) (ss : List KeptLabel) (bs : List KeptFrame) (fs : List ShadowFrame) (ks : List Bool) (ls : List (List Bool)) → AreFramesKept (values_in os) ss bs fs → marks_in os ≡ ks → local_marks bs ≡ ls
    → Stands os ss bs (record { frames = fs; operands = ks; locals = ls })
stands os ss bs fs ks ls h e g =
    let read = lies_read (values_in os) ss bs fs h in
    record {
      kept = subst (AreFramesKept (values_in os) ss bs) (sym read) h;
      is = ap (λ fs. (let r : Standing = record { frames = fs; operands = marks_in os; locals = local_marks bs } in r)) read
          ∙ ap (λ ks. (let r : Standing = record { frames = fs; operands = ks; locals = local_marks bs } in r)) e
          ∙ ap (λ ls. (let r : Standing = record { frames = fs; operands = ks; locals = ls } in r)) g;
    }

-- frames that stand lie so
pub lying : (os : List Marked) (ss : List KeptLabel) (bs : List KeptFrame) (st : Standing) → AreWellKept os ss bs → standing os ss bs ≡ st → AreFramesKept (values_in os) ss bs st.frames
lying os ss bs st h e = subst (AreFramesKept (values_in os) ss bs) (ap (λ (st : Standing). st.frames) e) h

-- ---- operands

has_operands : (n : ℕ) (fs : List ShadowFrame) → Has n fs → n ≤ length (operands_in (labels_in fs))
has_operands n [] h = absurd h
has_operands n (fr ∷ below) h = omega (arith, length-append fr.top.ops (operands_in (fr.outer ++ labels_in below)), h)

pub has_values : (n : ℕ) (os : List Marked) (ss : List KeptLabel) (bs : List KeptFrame) (st : Standing) → AreWellKept os ss bs → standing os ss bs ≡ st → Has n st.frames → n ≤ length os
has_values n os ss bs st h e k =
    omega (arith, has_operands n st.frames k, ap length (lying os ss bs st h e).values, length-map os (λ (m : Marked). m.value))

exchange_lies : (n : ℕ) (us vs : List Value) (ss : List KeptLabel) (bs : List KeptFrame) (fs : List ShadowFrame) → Has n fs → AreFramesKept vs ss bs fs → AreFramesKept (us ++ drop n vs) ss bs (exchanged_in n us fs)
exchange_lies n us vs ss bs [] k h = absurd k
exchange_lies n us vs ss [] (fr ∷ below) k h = absurd h.frames
exchange_lies n us vs ss (b ∷ bs) (fr ∷ below) k h =
    let rest = operands_in (fr.outer ++ labels_in below) in
    record {
      values = ap (λ vs. us ++ drop n vs) h.values ∙ ap (λ vs. us ++ vs) (drop-append-le n fr.top.ops rest k) ∙ sym (append_assoc us (drop n fr.top.ops) rest);
      labels = h.labels;
      frames = h.frames;
    }

pub exchange_stands : (n : ℕ) (ms os os2 : List Marked) (ss : List KeptLabel) (bs : List KeptFrame) (st : Standing) → AreWellKept os ss bs → standing os ss bs ≡ st → Has n st.frames → os2 ≡ ms ++ drop n os → Stands os2 ss bs (exchanged n ms st)
exchange_stands n ms os os2 ss bs st h e k g =
    let l = exchange_lies n (values_in ms) (values_in os) ss bs st.frames k (lying os ss bs st h e) in
    let vs : values_in os2 ≡ values_in ms ++ drop n (values_in os) =
    ap values_in g ∙ map-append (λ (m : Marked). m.value) ms (drop n os) ∙ ap (λ vs. values_in ms ++ vs) (sym (drop-map (λ (m : Marked). m.value) n os)) in
    let ks : marks_in os2 ≡ marks_in ms ++ drop n st.operands =
    ap marks_in g ∙ map-append (λ (m : Marked). m.mark) ms (drop n os) ∙ ap (λ ks. marks_in ms ++ ks) (sym (drop-map (λ (m : Marked). m.mark) n os)) ∙ ap (λ (st : Standing). marks_in ms ++ drop n st.operands) e in
    stands os2 ss bs (exchanged_in n (values_in ms) st.frames) (marks_in ms ++ drop n st.operands) st.locals (subst (λ vs. AreFramesKept vs ss bs (exchanged_in n (values_in ms) st.frames)) (sym vs) l) ks (ap (λ (st : Standing). st.locals) e)

-- ---- labels

open_lies : (n : ℕ) (s : KeptLabel) (vs : List Value) (ss : List KeptLabel) (bs : List KeptFrame) (fs : List ShadowFrame) → Has n fs → s.height ≡ length vs - n → AreFramesKept vs ss bs fs
    → AreFramesKept vs (s ∷ ss) bs (label_opened_in s.kind s.begin n s.arity fs)
open_lies n s vs ss bs [] k e h = absurd k
open_lies n s vs ss [] (fr ∷ below) k e h = absurd h.frames
open_lies n s vs ss (b ∷ bs) (fr ∷ below) k e h =
    let rest = operands_in (fr.outer ++ labels_in below) in
    let left = drop n fr.top.ops in
    let size : s.height ≡ length (left ++ rest) = omega (arith, e, ap length h.values, length-append fr.top.ops rest, length-append left rest, length-drop n fr.top.ops, k) in
    record {
      values = h.values ∙ ap (λ ops. ops ++ rest) (sym (take-append-drop n fr.top.ops)) ∙ append_assoc (take n fr.top.ops) left rest;
      labels = ap (λ height. record s { height = height } ∷ ss) size ∙ ap (λ ss. record s { height = length (left ++ rest) } ∷ ss) h.labels;
      frames = h.frames;
    }

pub open_stands : (n : ℕ) (s : KeptLabel) (os : List Marked) (ss ss2 : List KeptLabel) (bs : List KeptFrame) (st : Standing) → AreWellKept os ss bs → standing os ss bs ≡ st → Has n st.frames → s.height ≡ length os - n → ss2 ≡ s ∷ ss
    → Stands os ss2 bs (label_opened s.kind s.begin n s.arity st)
open_stands n s os ss ss2 bs st h e k g q =
    let l = open_lies n s (values_in os) ss bs st.frames k (g ∙ ap (λ k. k - n) (sym (length-map os (λ (m : Marked). m.value)))) (lying os ss bs st h e) in
    stands os ss2 bs (label_opened_in s.kind s.begin n s.arity st.frames) st.operands st.locals (subst (λ ss. AreFramesKept (values_in os) ss bs (label_opened_in s.kind s.begin n s.arity st.frames)) (sym q) l)
    (ap (λ (st : Standing). st.operands) e) (ap (λ (st : Standing). st.locals) e)

-- the frame and the labels around its innermost one
module _ (vs : List Value) (ss : List KeptLabel) (fr : ShadowFrame) (below : List ShadowFrame) where
  close_lies : (bs : List KeptFrame) (ls : List ShadowLabel) → fr.outer ≡ ls → 0 < length ls → AreFramesKept vs ss bs (fr ∷ below) → AreFramesKept vs (drop 1 ss) bs (closed_labels fr below ls)
  close_lies bs [] q k h = absurd (omega (arith, k))
  close_lies [] (l ∷ ls) q k h = absurd h.frames
  close_lies (b ∷ bs) (l ∷ ls) q k h =
      let rest = operands_in (ls ++ labels_in below) in
      record {
        values = h.values ∙ ap (λ ls. fr.top.ops ++ operands_in (ls ++ labels_in below)) q ∙ sym (append_assoc fr.top.ops l.ops rest);
        labels = ap (drop 1) h.labels ∙ ap (λ ls. labels_kept (ls ++ labels_in below)) q;
        frames = h.frames;
      }

closes : (vs : List Value) (ss : List KeptLabel) (bs : List KeptFrame) (fs : List ShadowFrame) → IsNested fs → AreFramesKept vs ss bs fs → AreFramesKept vs (drop 1 ss) bs (label_closed_in fs)
closes vs ss bs [] k h = absurd k
closes vs ss bs (fr ∷ below) k h = close_lies vs ss fr below bs fr.outer refl k h

pub close_stands : (os : List Marked) (ss ss2 : List KeptLabel) (bs : List KeptFrame) (st : Standing) → AreWellKept os ss bs → standing os ss bs ≡ st → IsNested st.frames → ss2 ≡ drop 1 ss → Stands os ss2 bs (label_closed st)
close_stands os ss ss2 bs st h e k q =
    stands os ss2 bs (label_closed_in st.frames) st.operands st.locals (subst (λ ss. AreFramesKept (values_in os) ss bs (label_closed_in st.frames)) (sym q) (closes (values_in os) ss bs st.frames k (lying os ss bs st h e)))
    (ap (λ (st : Standing). st.operands) e) (ap (λ (st : Standing). st.locals) e)

-- there is a label
has_label : (fs : List ShadowFrame) → IsNested fs → 1 ≤ length (labels_kept (labels_in fs))
has_label [] h = absurd h
has_label (fr ∷ below) h = omega arith

pub has_spots : (os : List Marked) (ss : List KeptLabel) (bs : List KeptFrame) (st : Standing) → AreWellKept os ss bs → standing os ss bs ≡ st → IsNested st.frames → 1 ≤ length ss
has_spots os ss bs st h e k = omega (arith, has_label st.frames k, ap length (lying os ss bs st h e).labels)

-- ---- the innermost label

reverse-last : {A : Type 0} (xs : List A) (n : ℕ) (d : A) → n + 1 ≡ length xs → reverse xs ≡ get_or xs n d ∷ reverse (take n xs)
reverse-last xs n d e =
    let h : n < length xs = omega arith in
    ap reverse (sym (ap (λ k. take k xs) e ∙ take_all (length xs) xs (omega arith)) ∙ take_more xs n d h) ∙ reverse-append (take n xs) (get_or xs n d ∷ [])

-- what stands at the end of a list
pub last_is : {A : Type 0} (xs : List A) (len : ℕ) (x : A) → len ≡ length xs → 1 ≤ length xs → x ≡ get_or xs (len - 1) x → reverse xs ≡ x ∷ reverse (take (len - 1) xs)
last_is xs len x e k h = reverse-last xs (len - 1) x (omega (arith, e, k)) ∙ ap (λ y. y ∷ reverse (take (len - 1) xs)) (sym h)

-- how many operands it has
counts : (vs : List Value) (ss : List KeptLabel) (bs : List KeptFrame) (fs : List ShadowFrame) (s : KeptLabel) (rest : List KeptLabel) → Has 0 fs → AreFramesKept vs ss bs fs → ss ≡ s ∷ rest → length vs ≡ operand_count fs + s.height
counts vs ss bs [] s rest k h e = absurd k
counts vs ss bs (fr ∷ below) s rest k h e =
    let height : s.height ≡ length (operands_in (fr.outer ++ labels_in below)) = ap (λ ss. (first_spot s ss).height) (sym e ∙ h.labels) in
    omega (arith, ap length h.values, length-append fr.top.ops (operands_in (fr.outer ++ labels_in below)), height)
  where
    first_spot : KeptLabel → List KeptLabel → KeptLabel
    first_spot s [] = s
    first_spot s (t ∷ ts) = t

pub counted : (os : List Marked) (ss : List KeptLabel) (bs : List KeptFrame) (st : Standing) (s : KeptLabel) (rest : List KeptLabel) → AreWellKept os ss bs → standing os ss bs ≡ st → Has 0 st.frames → ss ≡ s ∷ rest → length os ≡ operand_count st.frames + s.height
counted os ss bs st s rest h e k q = sym (length-map os (λ (m : Marked). m.value)) ∙ counts (values_in os) ss bs st.frames s rest k (lying os ss bs st h e) q

pub nested_has : (fs : List ShadowFrame) → IsNested fs → Has 0 fs
nested_has [] h = h
nested_has (fr ∷ below) h = omega arith

has_all : (fs : List ShadowFrame) → Has 0 fs → Has (operand_count fs) fs
has_all [] h = h
has_all (fr ∷ below) h = omega arith

nested_still : (n : ℕ) (us : List Value) (fs : List ShadowFrame) → IsNested fs → IsNested (exchanged_in n us fs)
nested_still n us [] h = h
nested_still n us (fr ∷ below) h = h

has_closed : (fs : List ShadowFrame) → IsNested fs → Has 0 (label_closed_in fs)
has_closed [] h = h
has_closed (fr ∷ below) h = go fr.outer
  where
    go : (ls : List ShadowLabel) → Has 0 (closed_labels fr below ls)
    go [] = omega arith
    go (l ∷ ls) = omega arith

pub land_stands : (ms os os1 os2 : List Marked) (ss ss2 : List KeptLabel) (bs : List KeptFrame) (st : Standing) → AreWellKept os ss bs → standing os ss bs ≡ st → IsNested st.frames
    → os1 ≡ drop (operand_count st.frames) os → ss2 ≡ drop 1 ss → os2 ≡ ms ++ os1 → Stands os2 ss2 bs (label_landed ms st)
land_stands ms os os1 os2 ss ss2 bs st h e k p q r =
    let n = operand_count st.frames in
    let first = exchange_stands n [] os os1 ss bs st h e (has_all st.frames (nested_has st.frames k)) p in
    let nested = nested_still n [] st.frames k in
    let second = close_stands os1 ss ss2 bs (exchanged n [] st) first.kept first.is nested q in
    exchange_stands 0 ms os1 os2 ss2 bs (label_closed (exchanged n [] st)) second.kept second.is (has_closed (exchanged_in n [] st.frames) nested) r

-- one value in the place of so many on top
pub reverse-replaced : {A : Type 0} (xs ys : List A) (n len : ℕ) (x : A) → len ≡ length xs → 1 ≤ n → n ≤ length xs → ys ≡ take (len - n + 1) (set xs (len - n) x) → reverse ys ≡ x ∷ drop n (reverse xs)
reverse-replaced xs ys n len x e k h g =
    let size : length xs - (len - n) ≡ n = omega (arith, e, h) in
    let within : len - n < length xs = omega (arith, e, h, k) in
    ap reverse (g ∙ take_more_set xs (len - n) x within) ∙ reverse-append (take (len - n) xs) (x ∷ []) ∙ ap (λ ys. x ∷ ys) (reverse-take (len - n) xs ∙ ap (λ k. drop k (reverse xs)) size)

-- ---- frames

-- a function begins
module _ (os : List Marked) (ss : List KeptLabel) (bs : List KeptFrame) (st : Standing) (kept : AreWellKept os ss bs) (is : standing os ss bs ≡ st) where
  pub enter_stands : (s : KeptLabel) (b : KeptFrame) (ss2 : List KeptLabel) (bs2 : List KeptFrame) → s ≡ record { kind = kinds.Function; begin = negsuc 0; arity = s.arity; height = length os } → b.labels ≡ length ss → ss2 ≡ s ∷ ss → bs2 ≡ b ∷ bs
      → Stands os ss2 bs2 (frame_entered b.func s.arity b.locals st)
  enter_stands s b ss2 bs2 e l p q =
      let h = lying os ss bs st kept is in
      let height : length os ≡ length (operands_in (labels_in st.frames)) = sym (length-map os (λ (m : Marked). m.value)) ∙ ap length h.values in
      stands os ss2 bs2 (frame_entered b.func s.arity b.locals st).frames st.operands (marks_in b.locals ∷ st.locals)
      (record {
        values = h.values;
        labels = p ∙ ap (λ s. s ∷ ss) e ∙ ap (λ n. function s.arity n ∷ ss) height ∙ ap (λ ss. function s.arity (length (operands_in (labels_in st.frames))) ∷ ss) h.labels;
        frames = subst (λ bs. AreKeptFrames bs (frame_entered b.func s.arity b.locals st).frames) (sym q) (refl, refl, l ∙ ap length h.labels ∙ spots_length (labels_in st.frames), h.frames);
      })
      (ap (λ (st : Standing). st.operands) is) (ap local_marks q ∙ ap (λ (st : Standing). marks_in b.locals ∷ st.locals) is)
    where
      function : ℕ → ℕ → KeptLabel
      function a n = record { kind = kinds.Function; begin = negsuc 0; arity = a; height = n }

  -- a frame that is left
  left_lies : (vs : List Value) (ss : List KeptLabel) (bs : List KeptFrame) (fs : List ShadowFrame) → IsOutermost fs → AreFramesKept vs ss bs fs → AreFramesKept (drop (operand_count fs) vs) (drop 1 ss) (drop 1 bs) (drop 1 fs)
  left_lies vs ss bs [] k h = absurd k
  left_lies vs ss [] (fr ∷ below) k h = absurd h.frames
  left_lies vs ss (b ∷ bs) (fr ∷ below) k h =
      record {
        values = ap (drop (length fr.top.ops)) h.values ∙ drop_at fr.top.ops (operands_in (fr.outer ++ labels_in below)) (length fr.top.ops) refl ∙ ap (λ ls. operands_in (ls ++ labels_in below)) k;
        labels = ap (drop 1) h.labels ∙ ap (λ ls. labels_kept (ls ++ labels_in below)) k;
        frames = h.frames.3;
      }

  pub leave_stands : (os2 : List Marked) (ss2 : List KeptLabel) (bs2 : List KeptFrame) → IsOutermost st.frames → os2 ≡ drop (operand_count st.frames) os → ss2 ≡ drop 1 ss → bs2 ≡ drop 1 bs → Stands os2 ss2 bs2 (frame_left st)
  leave_stands os2 ss2 bs2 k p q r =
      let n = operand_count st.frames in
      let h = left_lies (values_in os) ss bs st.frames k (lying os ss bs st kept is) in
      let vs : values_in os2 ≡ drop n (values_in os) = ap values_in p ∙ sym (drop-map (λ (m : Marked). m.value) n os) in
      let ks : marks_in os2 ≡ drop n st.operands = ap marks_in p ∙ sym (drop-map (λ (m : Marked). m.mark) n os) ∙ ap (λ (st : Standing). drop n st.operands) is in
      let ls : local_marks bs2 ≡ drop 1 st.locals = ap local_marks r ∙ sym (drop-map (λ (b : KeptFrame). marks_in b.locals) 1 bs) ∙ ap (λ (st : Standing). drop 1 st.locals) is in
      stands os2 ss2 bs2 (drop 1 st.frames) (drop n st.operands) (drop 1 st.locals)
      (subst (λ vs. AreFramesKept vs ss2 bs2 (drop 1 st.frames)) (sym vs) (subst (λ ss. AreFramesKept (drop n (values_in os)) ss bs2 (drop 1 st.frames)) (sym q) (subst (λ bs. AreFramesKept (drop n (values_in os)) (drop 1 ss) bs (drop 1 st.frames)) (sym r) h))) ks ls

  -- a local that is set
  set_lies : (vs : List Value) (ss : List KeptLabel) (b : KeptFrame) (bs : List KeptFrame) (fs : List ShadowFrame) (x : ℕ) (m : Marked) → AreFramesKept vs ss (b ∷ bs) fs → AreFramesKept vs ss (record b { locals = set b.locals x m } ∷ bs) (local_set_in x m.value fs)
  set_lies vs ss b bs [] x m h = absurd h.frames
  set_lies vs ss b bs (fr ∷ below) x m h = record {
    values = h.values;
    labels = h.labels;
    frames = (h.frames.0, map-set (λ (m : Marked). m.value) b.locals x m ∙ ap (λ vs. set vs x m.value) h.frames.1, h.frames.2, h.frames.3);
  }

  pub set_stands : (b : KeptFrame) (below bs2 : List KeptFrame) (x : ℕ) (m : Marked) → bs ≡ b ∷ below → bs2 ≡ record b { locals = set b.locals x m } ∷ below → Stands os ss bs2 (local_set x m st)
  set_stands b below bs2 x m p q =
      let h = set_lies (values_in os) ss b below st.frames x m (subst (λ bs. AreFramesKept (values_in os) ss bs st.frames) p (lying os ss bs st kept is)) in
      let ls : local_marks bs2 ≡ set_first x m.mark st.locals =
      ap local_marks q ∙ ap (λ ks. ks ∷ local_marks below) (map-set (λ (m : Marked). m.mark) b.locals x m) ∙ ap (λ bs. set_first x m.mark (local_marks bs)) (sym p) ∙ ap (λ (st : Standing). set_first x m.mark st.locals) is in
      stands os ss bs2 (local_set_in x m.value st.frames) st.operands (set_first x m.mark st.locals) (subst (λ bs. AreFramesKept (values_in os) ss bs (local_set_in x m.value st.frames)) (sym q) h) (ap (λ (st : Standing). st.operands) is) ls

  -- the lengths
  pub has_bases : Has 0 st.frames → 1 ≤ length bs
  has_bases k = go bs st.frames k (lying os ss bs st kept is).frames
    where
      go : (bs : List KeptFrame) (fs : List ShadowFrame) → Has 0 fs → AreKeptFrames bs fs → 1 ≤ length bs
      go bs [] k h = absurd k
      go [] (fr ∷ below) k h = absurd h
      go (b ∷ bs) (fr ∷ below) k h = omega arith

  pub has_labels : Has 0 st.frames → 1 ≤ length ss
  has_labels k = go st.frames k (lying os ss bs st kept is).labels
    where
      go : (fs : List ShadowFrame) → Has 0 fs → ss ≡ labels_kept (labels_in fs) → 1 ≤ length ss
      go [] k h = absurd k
      go (fr ∷ below) k h = omega (arith, ap length h)

pub outermost_has : (fs : List ShadowFrame) → IsOutermost fs → Has 0 fs
outermost_has [] h = h
outermost_has (fr ∷ below) h = omega arith

pub local_has : (x : ℕ) (fs : List ShadowFrame) → HasLocal x fs → Has 0 fs
local_has x [] h = h
local_has x (fr ∷ below) h = omega arith

-- another one at the end of a list
pub last_set : {A : Type 0} (xs : List A) (len : ℕ) (x y : A) → len ≡ length xs → 1 ≤ length xs → x ≡ get_or xs (len - 1) x → reverse (set xs (len - 1) y) ≡ y ∷ reverse (take (len - 1) xs)
last_set xs len x y e k h =
    let n = len - 1 in
    let size : n + 1 ≡ length xs = omega (arith, e, k) in
    let within : n < length xs = omega (arith, size) in
    ap (λ ys. reverse (set ys n y)) (sym (ap (λ j. take j xs) size ∙ take_all (length xs) xs (omega arith)) ∙ take_more xs n x within)
    ∙ ap reverse (set_at (take n xs) (get_or xs n x) [] y n (length-take-le n xs (omega (arith, size)))) ∙ reverse-append (take n xs) (y ∷ [])
