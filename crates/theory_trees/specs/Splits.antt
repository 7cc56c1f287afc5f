-- k, counted beforehand, is what happens in the μ-Tree, an instance of `Cuts`: an entry gives way to two exactly where
-- `gains` says so, and the levels that split are 1 to `splits`. Assumes nothing.
use Rattle.std.specs.Prelude.{◌≡◌, List, Bool, true, ℕ, suc, ◌+◌, ◌*◌, ◌<◌, ◌≤◌, length, is_none}
use Rattle.geometry.specs.declared.Entry.{Entry}
use Rattle.geometry.specs.Tests.{bit}
use Rattle.model.specs.Image.{Nodes}
use Rattle.model.specs.Tree.{gather, under, chosen, find}
use Rattle.model.specs.Edit.{splice, on_path, put_in, named, gains, splits}
use Rattle.theory_nodes.specs.Entries.{Rises}
use Rattle.theory_nodes.specs.Nodes.{Ok}
use Rattle.theory_trees.specs.Edit.{at_root}
use Rattle.theory_trees.specs.Insert.{inserted, left_of, right_of}
use Rattle.theory_trees.specs.Cuts as cuts
pub use Rattle.theory_trees.specs.Cuts.{above_none, put_size}

module _ (k a n : ℕ) (side half : ℕ → ℕ) (r : Nodes) (fit : ℕ → ℕ → Type 0) (absent : Bool) where
  abbrev room_at : ℕ → ℕ
  room_at l = 2 * half l

  abbrev inserts : ℕ → Entry → List Entry
  inserts = inserted r k a n side half

  abbrev gain : ℕ → Entry → Bool
  gain = gains r k half absent

  -- a node's list takes one more exactly if the chosen entry gains
  pub size_list : (l hi : ℕ) (es : List Entry) → 0 < length es → k < hi → Rises (Ok fit room_at r l) hi es
      → is_none (find k (gather (under r l) es)) ≡ absent
      → length (splice (inserts l) k es) ≡ length es + bit (gain l (chosen k es))
  size_list = cuts.size_list k a (λ _. n) (left_of k n side half) (right_of k n side half) half r fit absent

  -- the root's too, also an empty leaf
  pub root_size : (l hi : ℕ) (es : List Entry) → (1 ≤ l → 0 < length es) → k < hi → Rises (Ok fit room_at r l) hi es
      → is_none (find k (gather (under r l) es)) ≡ absent
      → length (at_root (put_in k a) (inserts l) k l es) ≡ length es + bit (gain l (chosen k es))
  root_size = cuts.root_size k a (λ _. n) (left_of k n side half) (right_of k n side half) half r fit absent

  -- a node's list is too long exactly if the entry that names the node gains
  pub over : (l hi : ℕ) (e : Entry) → k < hi → Ok fit room_at r (suc l) hi e → is_none (find k (under r (suc l) e))
      ≡ absent
      → 2 * half (suc l) < length (splice (inserts l) k (r e.addr (suc l))) → gain (suc l) e ≡ true
  over = cuts.over k a (λ _. n) (left_of k n side half) (right_of k n side half) half r fit absent

  pub long : (l hi : ℕ) (e : Entry) → k < hi → Ok fit room_at r (suc l) hi e → is_none (find k (under r (suc l) e))
      ≡ absent → gain (suc l) e ≡ true
      → 2 * half (suc l) < length (splice (inserts l) k (r e.addr (suc l)))
  long = cuts.long k a (λ _. n) (left_of k n side half) (right_of k n side half) half r fit absent

  -- a level splits only if all below it do
  pub all_below : (l : ℕ) (e : Entry) → gain l e ≡ true → splits r k half absent l e ≡ l
  all_below = cuts.all_below k half r absent

  pub splits_le : (l : ℕ) (e : Entry) → splits r k half absent l e ≤ l
  splits_le = cuts.splits_le k half r absent

  abbrev lists : ℕ → Entry → ℕ → List Entry
  lists = on_path r k (put_in k a) (named k n side half)

  -- of the path's nodes below the root those at levels 1 to `splits` are too long, and no others
  pub splits_are : (l hi : ℕ) (e : Entry) → k < hi → (1 ≤ l → 0 < length (r e.addr (suc l)))
      → Rises (Ok fit room_at r l) hi (r e.addr (suc l))
      → is_none (find k (under r (suc l) e)) ≡ absent
      → (j : ℕ) → 1 ≤ j → j ≤ l
      → (2 * half j < length (lists l e j) → j ≤ splits r k half absent l (chosen k (r e.addr (suc l)))) ×
      (j ≤ splits r k half absent l (chosen k (r e.addr (suc l))) → 2 * half j < length (lists l e j))
  splits_are = cuts.splits_are k a (λ _. n) (left_of k n side half) (right_of k n side half) half r fit absent
