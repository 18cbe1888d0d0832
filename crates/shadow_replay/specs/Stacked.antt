-- The operands, labels and frames of a shadow as they are kept: the operands of all labels of all frames in one list,
-- each with its mark, and for each label how many operands are below its own. The topmost operand is first, and so are
-- the innermost label and frame.
use Rattle.std.specs.Prelude.{◌≡◌, ℕ, ◌-◌, ◌<◌, ◌≤◌, ℤ, negsuc, List, [], ◌∷◌, ◌++◌, length, map, reverse, take, drop, Bool, slice_set}
use Rattle.wasm_sem.specs.Types.{Value, BlockKind}
use Rattle.wasm_num.specs.declared.BlockKind.TheVariants as kinds
use Rattle.shadow_replay.specs.declared.marked.Marked.{Marked}
use Rattle.shadow_replay.specs.Shadow.{ShadowLabel, ShadowFrame}
use Rattle.shadow_replay.specs.Taint.{set_first}

abbrev pub values_in : List Marked → List Value
values_in ms = map (λ (m : Marked). m.value) ms

abbrev pub marks_in : List Marked → List Bool
marks_in ms = map (λ (m : Marked). m.mark) ms

-- a label: how many values a branch to it takes, and how many operands are below its own
pub record KeptLabel : Type 0 where
  pub kind : BlockKind
  pub begin : ℤ
  pub arity : ℕ
  pub height : ℕ

-- a frame: how many labels are below its own
pub record KeptFrame : Type 0 where
  pub func : ℕ
  pub locals : List Marked
  pub labels : ℕ

-- ---- the frames that are kept in this way

abbrev pub labels_from : (operands : List Value) → List KeptLabel → List ShadowLabel
labels_from vs [] = []
labels_from vs (s ∷ ss) =
    record { kind = s.kind; begin = s.begin; arity = s.arity; ops = take (length vs - s.height) vs } ∷ labels_from (drop (length vs - s.height) vs) ss

abbrev pub no_label : ShadowLabel
no_label = record { kind = kinds.Function; begin = negsuc 0; arity = 0; ops = [] }

-- a frame with these labels, of which there is at least one
abbrev pub frame_from : KeptFrame → List ShadowLabel → ShadowFrame
frame_from b [] = record { func = b.func; locals = values_in b.locals; top = no_label; outer = [] }
frame_from b (l ∷ ls) = record { func = b.func; locals = values_in b.locals; top = l; outer = ls }

abbrev pub frames_from : List ShadowLabel → List KeptFrame → List ShadowFrame
frames_from ls [] = []
frames_from ls (b ∷ bs) = frame_from b (take (length ls - b.labels) ls) ∷ frames_from (drop (length ls - b.labels) ls) bs

-- ---- how frames are kept

abbrev pub labels_in : List ShadowFrame → List ShadowLabel
labels_in [] = []
labels_in (fr ∷ below) = (fr.top ∷ fr.outer) ++ labels_in below

abbrev pub operands_in : List ShadowLabel → List Value
operands_in [] = []
operands_in (l ∷ ls) = l.ops ++ operands_in ls

abbrev pub labels_kept : List ShadowLabel → List KeptLabel
labels_kept [] = []
labels_kept (l ∷ ls) = record { kind = l.kind; begin = l.begin; arity = l.arity; height = length (operands_in ls) } ∷ labels_kept ls

abbrev pub AreKeptFrames : List KeptFrame → List ShadowFrame → Type 0
AreKeptFrames [] [] = Unit {0}
AreKeptFrames (b ∷ bs) (fr ∷ below) = (b.func ≡ fr.func) × (values_in b.locals ≡ fr.locals) × (b.labels ≡ length (labels_in below)) × AreKeptFrames bs below
AreKeptFrames _ _ = ⊥

pub record AreFramesKept (vs : List Value) (ss : List KeptLabel) (bs : List KeptFrame) (fs : List ShadowFrame) : Type 0 where
  pub values : vs ≡ operands_in (labels_in fs)
  pub labels : ss ≡ labels_kept (labels_in fs)
  pub frames : AreKeptFrames bs fs

-- ---- what a stack is seen as

pub record Standing : Type 0 where
  pub frames : List ShadowFrame
  pub operands : List Bool
  pub locals : List (List Bool)

abbrev pub frames_kept : List Marked → List KeptLabel → List KeptFrame → List ShadowFrame
frames_kept os ss bs = frames_from (labels_from (values_in os) ss) bs

abbrev pub standing : List Marked → List KeptLabel → List KeptFrame → Standing
standing os ss bs = record { frames = frames_kept os ss bs; operands = marks_in os; locals = map (λ (b : KeptFrame). marks_in b.locals) bs }

abbrev pub AreWellKept : List Marked → List KeptLabel → List KeptFrame → Type 0
AreWellKept os ss bs = AreFramesKept (values_in os) ss bs (frames_kept os ss bs)

-- ---- how calls change it

-- the innermost label has at least `count` operands
abbrev pub Has : (count : ℕ) → List ShadowFrame → Type 0
Has n [] = ⊥
Has n (fr ∷ below) = n ≤ length fr.top.ops

abbrev pub exchanged_in : (count : ℕ) → List Value → List ShadowFrame → List ShadowFrame
exchanged_in n vs [] = []
exchanged_in n vs (fr ∷ below) = record fr { top = record fr.top { ops = vs ++ drop n fr.top.ops } } ∷ below

-- the topmost `count` operands are replaced by others
abbrev pub exchanged : (count : ℕ) → List Marked → Standing → Standing
exchanged n ms st = record { frames = exchanged_in n (values_in ms) st.frames; operands = marks_in ms ++ drop n st.operands; locals = st.locals }

-- how many operands the innermost label has
abbrev pub operand_count : List ShadowFrame → ℕ
operand_count [] = 0
operand_count (fr ∷ below) = length fr.top.ops

-- the innermost frame has another label around its innermost one; or it has none
abbrev pub IsNested : List ShadowFrame → Type 0
IsNested [] = ⊥
IsNested (fr ∷ below) = 0 < length fr.outer

abbrev pub IsOutermost : List ShadowFrame → Type 0
IsOutermost [] = ⊥
IsOutermost (fr ∷ below) = fr.outer ≡ []

abbrev pub closed_labels : ShadowFrame → List ShadowFrame → List ShadowLabel → List ShadowFrame
closed_labels fr below [] = fr ∷ below
closed_labels fr below (l ∷ ls) = record fr { top = record l { ops = fr.top.ops ++ l.ops }; outer = ls } ∷ below

abbrev pub label_closed_in : List ShadowFrame → List ShadowFrame
label_closed_in [] = []
label_closed_in (fr ∷ below) = closed_labels fr below fr.outer

-- the innermost label is closed, and its operands stay
abbrev pub label_closed : Standing → Standing
label_closed st = record st { frames = label_closed_in st.frames }

-- the innermost label is closed without its operands, and the values go to the label around it
abbrev pub label_landed : List Marked → Standing → Standing
label_landed ms st = exchanged 0 ms (label_closed (exchanged (operand_count st.frames) [] st))

abbrev pub label_opened_in : BlockKind → (begin : ℤ) → (starts arity : ℕ) → List ShadowFrame → List ShadowFrame
label_opened_in kind begin n a [] = []
label_opened_in kind begin n a (fr ∷ below) = record fr {
  top = record { kind = kind; begin = begin; arity = a; ops = take n fr.top.ops };
  outer = record fr.top { ops = drop n fr.top.ops } ∷ fr.outer;
} ∷ below

-- a block begins, whose first operands are the topmost `starts` values
abbrev pub label_opened : BlockKind → (begin : ℤ) → (starts arity : ℕ) → Standing → Standing
label_opened kind begin n a st = record st { frames = label_opened_in kind begin n a st.frames }

-- a function begins with these locals
abbrev pub frame_entered : (func arity : ℕ) → List Marked → Standing → Standing
frame_entered f a ms st = record {
  frames = record { func = f; locals = values_in ms; top = record { kind = kinds.Function; begin = negsuc 0; arity = a; ops = [] }; outer = [] } ∷ st.frames;
  operands = st.operands;
  locals = marks_in ms ∷ st.locals;
}

-- the innermost frame is left, without its operands and locals
abbrev pub frame_left : Standing → Standing
frame_left st = record { frames = drop 1 st.frames; operands = drop (operand_count st.frames) st.operands; locals = drop 1 st.locals }

-- the innermost frame has this local
abbrev pub HasLocal : (index : ℕ) → List ShadowFrame → Type 0
HasLocal x [] = ⊥
HasLocal x (fr ∷ below) = x < length fr.locals

abbrev pub local_set_in : (index : ℕ) → Value → List ShadowFrame → List ShadowFrame
local_set_in x v [] = []
local_set_in x v (fr ∷ below) = record fr { locals = slice_set fr.locals x v } ∷ below

abbrev pub local_set : (index : ℕ) → Marked → Standing → Standing
local_set x m st = record { frames = local_set_in x m.value st.frames; operands = st.operands; locals = set_first x m.mark st.locals }

-- the innermost frame has this label
abbrev pub HasLabel : (label : ℕ) → List ShadowFrame → Type 0
HasLabel n [] = ⊥
HasLabel n (fr ∷ below) = n ≤ length fr.outer

abbrev pub top_operands : List ShadowFrame → List Value
top_operands [] = []
top_operands (fr ∷ below) = fr.top.ops

-- `count` operands below the topmost `above`, the lowest first
pub record AreOperandsBelow (above count : ℕ) (ms : List Marked) (st : Standing) : Type 0 where
  pub values : values_in ms ≡ reverse (take count (drop above (top_operands st.frames)))
  pub marks : marks_in ms ≡ reverse (take count (drop above st.operands))
