-- What the program asks: the inputs of its requests, byte for byte.
use Rattle.std.specs.Prelude.{Bool, List, [], ◌∷◌, ◌++◌, ℕ, replicate}
use Rattle.rules.specs.Bytes.{blank}
use Rattle.rules.specs.Request.{Lent, lent}

-- 00 to 1F
abbrev pub nonce_bytes : List ℕ
nonce_bytes =
    0 ∷ 1 ∷ 2 ∷ 3 ∷ 4 ∷ 5 ∷ 6 ∷ 7 ∷ 8 ∷ 9 ∷ 10 ∷ 11 ∷ 12 ∷ 13 ∷ 14 ∷ 15 ∷ 16 ∷ 17 ∷ 18 ∷ 19 ∷ 20 ∷ 21 ∷ 22 ∷ 23 ∷ 24 ∷ 25 ∷ 26 ∷ 27 ∷ 28 ∷ 29 ∷ 30 ∷ 31 ∷ []

-- a buffer of EE, those nonce bytes, stream 3 secure, session 9
abbrev pub given : List ℕ → Bool → Lent
given q ready = lent q (replicate 256 0xee) nonce_bytes ready (8 ∷ blank 31) (record { 0 = 9 })

-- 01's whole lock for 0100h
abbrev pub whole_lock : List ℕ
whole_lock = (0x10 ∷ 0x83 ∷ 0 ∷ 0 ∷ 0x00 ∷ 0x01 ∷ []) ++ blank 10 ++ (0x05 ∷ 0 ∷ 0x03 ∷ 0 ∷ 0x00 ∷ 0xf0 ∷ 0xff ∷ 0xff ∷ 0xff ∷ 0xff ∷ 0xff ∷ 0xff ∷ []) ++ blank 8
