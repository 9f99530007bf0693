-- Rows of things, read as columns.
use Rattle.std.specs.Prelude.{◌≡◌, ℕ, List, [], ◌∷◌, ◌++◌, ◌≤◌, length, slice_get, Some}
use Rattle.std.specs.Global.{Vec}

module _ {T : Type 0} where
  -- each row has so many things
  abbrev pub HasWidth : ℕ → List (Vec T) → Type 0
  HasWidth width rows = (i : ℕ) (row : Vec T) → slice_get rows i ≡ Some row → length row.items ≡ width

  -- these were handed out, one to each column in order, and the columns after those are as they were
  pub record HandedOut (old : List (Vec T)) (things : List T) (new : List (Vec T)) : Type 0 where
    pub count : length new ≡ length old
    pub more : (k : ℕ) (before after : Vec T) (x : T) → slice_get old k ≡ Some before → slice_get new k ≡ Some after → slice_get things k ≡ Some x → after.items ≡ before.items ++ x ∷ []
    pub same : (k : ℕ) (before after : Vec T) → slice_get old k ≡ Some before → slice_get new k ≡ Some after → length things ≤ k → after ≡ before

  -- so many columns, each as long as there are rows, and what stands at a place of a row stands in the column of that place at the place of the row
  pub record IsTurned (width : ℕ) (rows columns : List (Vec T)) : Type 0 where
    pub count : length columns ≡ width
    pub long : HasWidth (length rows) columns
    pub same : (i k : ℕ) (row column : Vec T) → slice_get rows i ≡ Some row → slice_get columns k ≡ Some column → slice_get column.items i ≡ slice_get row.items k
