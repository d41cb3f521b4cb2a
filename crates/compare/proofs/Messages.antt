-- Fields written one after the other over zeros. Assumes nothing.
use Rattle.std.proofs.Common.{◌≡◌, ◌≤◌, ◌-◌, ◌∙◌, ◌∷◌, ◌++◌, ℕ, List, set, suc, arith}
use Rattle.rules.specs.Bytes.{blank, bytes_of, over}
use Rattle.compare.specs.Requests.{message, report_request}

module _ (kind id : ℕ) where
  header : (n m : ℕ) → n ≡ suc (suc (suc (suc (suc (suc (suc (suc m)))))))
      → over 4 (bytes_of 4 id) (set (set (blank n) 0 0x10) 1 kind) ≡ 0x10 ∷ kind ∷ 0 ∷ 0 ∷ bytes_of 4 id ++ blank m
  unfolding over bytes_of
  header n m e = rw e

  pub is_message : (n : ℕ) (r : List ℕ) → 16 ≤ n → r ≡ over 4 (bytes_of 4 id) (set (set (blank n) 0 0x10) 1 kind) → r ≡ message n kind id
  is_message n r h e = e ∙ header n (n - 8) (omega arith)

pub is_report_request : (id offset asked : ℕ) (m a r : List ℕ)
    → m ≡ message 20 0x84 id
    → a ≡ over 16 (bytes_of 2 offset) m
    → r ≡ over 18 (bytes_of 2 asked) a
    → r ≡ report_request id offset asked
unfolding over bytes_of
is_report_request id offset asked m a r e f g = rw (g, f, e)
