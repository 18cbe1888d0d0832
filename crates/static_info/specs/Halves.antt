-- A list of blocks that is halved again and again, with the span of each piece.
use Rattle.std.specs.Prelude.{◌≡◌, ◌<◌, ◌/◌, ◌≤ℤ◌, List, [], ◌∷◌, ◌++◌, length}
use Rattle.branch_resolve.specs.declared.Block.{Block}
use Rattle.static_info.specs.declared.blocks.Span.{Span}

abbrev pub span_of : Block → Span
span_of b = record { begin = b.begin; end = b.end }

pub data Halves : Type 0 where
  nothing : Halves
  one : Block → Halves
  two : Span → (first second : Halves) → Halves

-- the blocks, in order
abbrev pub cut_blocks : Halves → List Block
cut_blocks nothing = []
cut_blocks (one b) = b ∷ []
cut_blocks (two s xs ys) = cut_blocks xs ++ cut_blocks ys

-- the spans, each after those of its pieces
abbrev pub cut_spans : Halves → List Span
cut_spans nothing = []
cut_spans (one b) = span_of b ∷ []
cut_spans (two s xs ys) = cut_spans xs ++ (cut_spans ys ++ s ∷ [])

-- no block begins before the begin of the span, and none ends after its end
abbrev pub IsSpanOver : Span → List Block → Type 0
IsSpanOver s [] = Unit {0}
IsSpanOver s (b ∷ bs) = (s.begin ≤ℤ b.begin) × (b.end ≤ℤ s.end) × IsSpanOver s bs

-- each piece is cut in the middle, and none of its blocks goes past its span
abbrev pub IsHalved : Halves → Type 0
IsHalved nothing = Unit {0}
IsHalved (one b) = Unit {0}
IsHalved (two s xs ys) =
    IsSpanOver s (cut_blocks xs ++ cut_blocks ys)
    × (0 < length (cut_blocks xs))
    × (length (cut_blocks xs) ≡ length (cut_blocks xs ++ cut_blocks ys) / 2)
    × IsHalved xs × IsHalved ys

-- the spans are those of the pieces of these blocks
pub record AreSpansOf (blocks : List Block) (spans : List Span) : Type 0 where
  pub halves : Halves
  pub halved : IsHalved halves
  pub of : cut_blocks halves ≡ blocks
  pub noted : cut_spans halves ≡ spans

-- the new spans are the old ones, and after them those of the pieces of these blocks
pub record AddSpansOf (blocks : List Block) (old new : List Span) : Type 0 where
  pub more : List Span
  pub are : AreSpansOf blocks more
  pub added : new ≡ old ++ more
