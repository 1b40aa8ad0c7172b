-- What a call is lent. In an `ensures` such a parameter's bare name has its values as the call begins and as it ends.
use denote.Triple.Both.{Both}
use denote.Bor.{Bor}
use denote.MutBor.{MutBor}

-- what a `&mut` points to
abbrev pub Lent : Type 0 → Type 0
Lent X = Both (MutBor X) (MutBor X)

-- what a `&` points to
abbrev pub Shared : Type 0 → Type 0
Shared X = Both (Bor X) (Bor X)
