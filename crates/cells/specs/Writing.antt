-- The written type of a cell: how long it is, and what is written where.
use Rattle.std.specs.Prelude.{ℕ, suc, ◌+◌, ◌-◌, ◌≤◌, ◌<◌, ◌≡◌, Bool, not, cond, ◌≢◌, List, [], ◌∷◌, eqb, length, Option, Some, None, IfSome}
use Rattle.std.proofs.lemmas.List.Edits.{sets}
use Rattle.language.specs.Ty.{Ty}
use Rattle.language.specs.Unification.{size}
use Rattle.language.specs.WrittenForm.{is_among, appearing, place_in, spell}
use Rattle.language.proofs.Count.{count}
use Rattle.cells.specs.Cells.{Ev}
use Rattle.cells.specs.CellSteps.{tag}
use Rattle.cells.specs.Layout.{cell_at, pair_at, cells_in, store_of, Sound}
use Rattle.cells.specs.declared.write.Rest.{Rest}
use Rattle.cells.specs.declared.write.Word.{Word}

-- ---- Following links and measuring

-- Cell r is no link, and evaluates as cell i does.
pub record Root (cells : List ℕ) (i r : ℕ) : Type 0 where
  pub below : r ≤ i
  pub no_link : tag (cell_at cells r) ≢ 1
  pub same : (τ : Ty) → Ev (store_of cells) i τ → Ev (store_of cells) r τ

-- So much is left of the room after so many words, or they have no room.
abbrev pub Leaves : ℕ → ℕ → Option ℕ → Type 0
Leaves room words (Some left) = words + left ≡ room
Leaves room words None = room < words

-- What is left of the room after the words of cell i's type, if it has no more. Even a cell without a type leaves no more than there was.
pub record Measured (cells : List ℕ) (i room : ℕ) (left : Option ℕ) : Type 0 where
  pub no_more : IfSome left (λ l. l ≤ room)
  pub takes : (τ : Ty) → Ev (store_of cells) i τ → Leaves room (size τ) left

-- ---- Numbering

-- Variables that were seen have their place plus one, all others have 0.
unfoldable pub number_in : List ℕ → ℕ → ℕ
number_in seen α = cond (is_among α seen) (suc (place_in seen α)) 0

-- Those numbers stand beside the cells.
pub record Numbers (cells : List ℕ) (numbered : ℕ) (seen : List ℕ) : Type 0 where
  pub beside : (α : ℕ) → (pair_at cells α).right ≡ number_in seen α
  pub as_many : length seen ≡ numbered

abbrev pub has_number : List ℕ → ℕ → Bool
has_number cells i = not (eqb (pair_at cells i).right 0)

-- So many cells have a number, and none has a greater one.
pub record Ready (cells : List ℕ) (numbered : ℕ) : Type 0 where
  pub sound : Sound cells
  pub counted : numbered ≡ count (has_number cells) (cells_in cells)
  pub small : (i : ℕ) → (pair_at cells i).right ≤ numbered

-- Nothing but numbers was written.
pub record Kept (before after : List ℕ) (numbered : ℕ) : Type 0 where
  pub ready : Ready after numbered
  pub same_length : length after ≡ length before
  pub same_store : store_of after ≡ store_of before

-- ---- Writing

-- The words of a type, after other variables were seen.
abbrev pub words_after : List ℕ → Ty → List ℕ
words_after seen τ = spell (place_in (appearing seen τ)) τ

-- A cell of a base type or a variable.
pub record LeafCell (cells : List ℕ) (r : ℕ) : Type 0 where
  pub inside : r < cells_in cells
  pub no_link : tag (cell_at cells r) ≢ 1
  pub no_arrow : tag (cell_at cells r) ≢ 5

-- The type has this one word, and its variable is numbered.
pub record OneWord (seen : List ℕ) (τ : Ty) (after : List ℕ) (w : Word) : Type 0 where
  pub is : words_after seen τ ≡ w.word ∷ []
  pub numbers : Numbers after w.numbered (appearing seen τ)

pub record LeafSpelled (before : List ℕ) (numbered r : ℕ) (after : List ℕ) (w : Word) : Type 0 where
  pub kept : Kept before after w.numbered
  pub spelled : (seen : List ℕ) (τ : Ty) → Numbers before numbered seen → Ev (store_of before) r τ → OneWord seen τ after w

-- The words of the type are the next ones, and its variables are numbered.
pub record WordsPut (seen : List ℕ) (τ : Ty) (left : ℕ) (before after cells : List ℕ) (rest : Rest) : Type 0 where
  pub taken : rest.left + size τ ≡ left
  pub numbers : Numbers cells rest.numbered (appearing seen τ)
  pub put : after ≡ sets before (length before - left) (words_after seen τ)

pub record Wrote (cells : List ℕ) (i : ℕ) (out : List ℕ) (rest : Rest) (cells' out' : List ℕ) (rest' : Rest) : Type 0 where
  pub kept : Kept cells cells' rest'.numbered
  pub no_more : rest'.left ≤ rest.left
  pub same_length : length out' ≡ length out
  pub written : (seen : List ℕ) (τ : Ty) → Numbers cells rest.numbered seen → Ev (store_of cells) i τ → size τ ≤ rest.left → WordsPut seen τ rest.left out out' cells' rest'
