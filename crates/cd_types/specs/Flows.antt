-- What flows between parts, what they result in, and the type of a part.
use Rattle.std.specs.Prelude.{ℕ, ◌+◌, Bool, true, false, ◌&&◌, nat_lt, if◌then◌else◌, List, [], ◌∷◌, Option, Some, None}
pub use Rattle.cd_elem.specs.declared.kind.Kind.{Kind}
pub use Rattle.cd_elem.specs.declared.kind.Sort.{Sort}

-- what comes to a part or from it: a kind or nothing
abbrev pub Flow : Type 0
Flow = Option Kind

-- a result, by what its value is
pub data ResultKind : Type 0 where
  Unit : ResultKind
  Num : ResultKind
  Truth : ResultKind
  Byte : ResultKind
  Char : ResultKind
  BytesV : ResultKind
  TextV : ResultKind
  Maybe : ResultKind → ResultKind
  Pair : ResultKind → ResultKind → ResultKind
  ListV : Sort → ResultKind

-- the type of a part: what comes to it and from it, its result, and how many elements it may hold
pub record PartType : Type 0 where
  pub from : Flow
  pub to : Flow
  pub result : ResultKind
  pub exact : Bool
  pub idle : Bool
  pub bound : ℕ

-- the sum of the bounds of these parts
abbrev pub bound_of : List PartType → ℕ
bound_of [] = 0
bound_of (t ∷ more) = t.bound + bound_of more

-- ---- flows

abbrev pub is_nothing : Flow → Bool
is_nothing None = true
is_nothing (Some k) = false

abbrev pub is_cut : Flow → Bool
is_cut (Some Kind.Bytes) = true
is_cut (Some Kind.Chars) = true
is_cut (Some (Kind.Blocks m)) = false
is_cut (Some (Kind.Texts m)) = false
is_cut None = false

abbrev pub is_pieces : Flow → Bool
is_pieces (Some Kind.Bytes) = false
is_pieces (Some Kind.Chars) = false
is_pieces (Some (Kind.Blocks m)) = true
is_pieces (Some (Kind.Texts m)) = true
is_pieces None = false

abbrev pub is_bytes : Flow → Bool
is_bytes (Some Kind.Bytes) = true
is_bytes _ = false

abbrev pub is_chars : Flow → Bool
is_chars (Some Kind.Chars) = true
is_chars _ = false

abbrev pub kind_sort : Kind → Sort
kind_sort Kind.Bytes = Sort.Bytes
kind_sort Kind.Chars = Sort.Chars
kind_sort (Kind.Blocks m) = Sort.Block
kind_sort (Kind.Texts m) = Sort.Text

-- what flows by its sort, as meanings speak of it
abbrev pub sort_in : Flow → Option Sort
sort_in None = None
sort_in (Some k) = Some (kind_sort k)

-- the greatest length of a piece
abbrev pub kind_bound : Kind → ℕ
kind_bound Kind.Bytes = 0
kind_bound Kind.Chars = 0
kind_bound (Kind.Blocks m) = m
kind_bound (Kind.Texts m) = m

abbrev pub piece_bound : Flow → ℕ
piece_bound None = 0
piece_bound (Some k) = kind_bound k

abbrev pub kind_with : Kind → ℕ → Kind
kind_with Kind.Bytes n = Kind.Bytes
kind_with Kind.Chars n = Kind.Chars
kind_with (Kind.Blocks m) n = Kind.Blocks n
kind_with (Kind.Texts m) n = Kind.Texts n

-- the same kind with another bound of its pieces
abbrev pub with_bound : Flow → ℕ → Flow
with_bound None n = None
with_bound (Some k) n = Some (kind_with k n)

abbrev pub same_sort : Sort → Sort → Bool
same_sort Sort.Bytes Sort.Bytes = true
same_sort Sort.Chars Sort.Chars = true
same_sort Sort.Block Sort.Block = true
same_sort Sort.Text Sort.Text = true
same_sort _ _ = false

-- one of them is nothing, or both have the same kind apart from the bound
abbrev pub agree : Flow → Flow → Bool
agree None g = true
agree (Some a) None = true
agree (Some a) (Some b) = same_sort (kind_sort a) (kind_sort b)

abbrev pub larger : ℕ → ℕ → ℕ
larger m n = if nat_lt m n then n else m

-- of two that agree: the other one, or the larger bound
abbrev pub join : Flow → Flow → Flow
join None g = g
join (Some a) None = Some a
join (Some a) (Some b) = Some (kind_with a (larger (kind_bound a) (kind_bound b)))

-- the pieces that elements are cut into, and the elements of pieces
abbrev pub cut_into : Flow → ℕ → Flow
cut_into (Some Kind.Bytes) n = Some (Kind.Blocks n)
cut_into (Some Kind.Chars) n = Some (Kind.Texts n)
cut_into _ n = None

abbrev pub flattened : Flow → Flow
flattened (Some (Kind.Blocks m)) = Some Kind.Bytes
flattened (Some (Kind.Texts m)) = Some Kind.Chars
flattened _ = None

-- ---- results

abbrev pub is_unit : ResultKind → Bool
is_unit Unit = true
is_unit _ = false

abbrev pub sort_value : Sort → ResultKind
sort_value Sort.Bytes = Byte
sort_value Sort.Chars = Char
sort_value Sort.Block = BytesV
sort_value Sort.Text = TextV

abbrev pub sort_list : Sort → ResultKind
sort_list Sort.Bytes = BytesV
sort_list Sort.Chars = TextV
sort_list Sort.Block = ListV Sort.Block
sort_list Sort.Text = ListV Sort.Text

-- one value of a flow, and a list of them
abbrev pub value_in : Flow → ResultKind
value_in None = Unit
value_in (Some k) = sort_value (kind_sort k)

abbrev pub list_in : Flow → ResultKind
list_in None = Unit
list_in (Some k) = sort_list (kind_sort k)

-- a list of the pieces that a part gives, of blocks where it gives nothing
abbrev pub pieces_list : Flow → ResultKind
pieces_list None = ListV Sort.Block
pieces_list (Some k) = ListV (kind_sort k)

-- both results, or unit where both are unit
abbrev pub both_results : ResultKind → ResultKind → ResultKind
both_results r s = if is_unit r && is_unit s then Unit else Pair r s
