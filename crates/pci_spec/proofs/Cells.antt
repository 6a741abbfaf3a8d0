-- Bytes in cells, at some of their places.
use Rattle.std.proofs.Common.{ℕ, zero, suc, ◌+◌, ◌<◌, List, [], ◌∷◌, ◌++◌, length, take, drop, get_or, sym, subst, arith}
use Rattle.std.proofs.lemmas.List.{take_more}
use Rattle.pci_spec.specs.Form.{Cell, Takes, Fits}
use Rattle.pci_spec.proofs.Forms.{fits_append}

pub fits_first : (n : ℕ) (cells : List Cell) (bytes : List ℕ) → Fits cells bytes → Fits (take n cells) (take n bytes)
fits_first zero cells bytes h = tt
fits_first (suc n) [] [] h = tt
fits_first (suc n) [] (x ∷ bytes) h = absurd h
fits_first (suc n) (t ∷ cells) [] h = absurd h
fits_first (suc n) (t ∷ cells) (x ∷ bytes) h = (h.0, fits_first n cells bytes h.1)

pub fits_after : (n : ℕ) (cells : List Cell) (bytes : List ℕ) → Fits cells bytes → Fits (drop n cells) (drop n bytes)
fits_after zero cells bytes h = h
fits_after (suc n) [] [] h = tt
fits_after (suc n) [] (x ∷ bytes) h = absurd h
fits_after (suc n) (t ∷ cells) [] h = absurd h
fits_after (suc n) (t ∷ cells) (x ∷ bytes) h = fits_after n cells bytes h.1

-- the n cells from a place on
pub fits_between : (at n : ℕ) (cells : List Cell) (bytes : List ℕ) → Fits cells bytes → Fits (take n (drop at cells)) (take n (drop at bytes))
fits_between at n cells bytes h = fits_first n (drop at cells) (drop at bytes) (fits_after at cells bytes h)

pub fits_at : (k : ℕ) (cells : List Cell) (bytes : List ℕ) (cell : Cell) → Fits cells bytes → k < length cells → Takes (get_or cells k cell) (get_or bytes k 0)
fits_at k [] bytes cell h within = absurd (omega (arith, within))
fits_at k (t ∷ cells) [] cell h within = absurd h
fits_at zero (t ∷ cells) (x ∷ bytes) cell h within = h.0
fits_at (suc k) (t ∷ cells) (x ∷ bytes) cell h within = fits_at k cells bytes cell h.1 (omega (arith, within))

-- a byte more
pub fits_more : (k : ℕ) (cells : List Cell) (bytes : List ℕ) (cell : Cell) → k < length cells → k < length bytes → Fits (take k cells) (take k bytes) → Takes (get_or cells k cell) (get_or bytes k 0) → Fits (take (k + 1) cells) (take (k + 1) bytes)
fits_more k cells bytes cell within inside fits takes =
    subst (λ (cs : List Cell). Fits cs (take (k + 1) bytes)) (sym (take_more cells k cell within))
    (subst (λ (t : List ℕ). Fits (take k cells ++ get_or cells k cell ∷ []) t) (sym (take_more bytes k 0 inside))
    (fits_append (take k cells) (get_or cells k cell ∷ []) (take k bytes) (get_or bytes k 0 ∷ []) fits (takes, tt)))
