-- Links in the order in which they were put.
use Rattle.std.specs.Prelude.{◌≡◌, ◌≢◌, ℕ, ◌-◌, ◌^◌, ◌<◌, ◌≤◌, List, length, slice_index, slice_index_or}
use Rattle.task_window.specs.declared.links.Link.{Link}

-- links, how many keys they may have, and for how many links there is room
pub record ChainsValue : Type 0 where
  pub keys : ℕ
  pub links : List Link
  pub room : ℕ

-- what stands past the end
abbrev pub no_link : Link
no_link = record { key = 0; value = 0 }

abbrev pub link_at : List Link → ℕ → Link
link_at links x = slice_index_or links x no_link

-- e is one more than the number of the last link of this key among the first n, or 0
pub record IsLatest (links : List Link) (key n e : ℕ) : Type 0 where
  pub within : e ≤ n
  pub is : 0 < e → (link_at links (e - 1)).key ≡ key
  pub others : (x : ℕ) → e ≤ x → x < n → (link_at links x).key ≢ key

pub record AreChained (links : List Link) (earlier last : List ℕ) : Type 0 where
  pub size : length earlier ≡ length links
  pub few : length links < 2 ^ 32
  pub keys : (x : ℕ) → x < length links → (link_at links x).key < length last
  pub before : (x : ℕ) → x < length links → IsLatest links (link_at links x).key x (slice_index earlier x)
  pub ends : (k : ℕ) → k < length last → IsLatest links k (length links) (slice_index last k)
