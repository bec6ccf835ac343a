-- What a bounded list means: the list of its items.
use Rattle.std.specs.Prelude.{ℕ, cond, List, [], ◌∷◌, ◌++◌, length, take, Some, None, Option, nat_le, nat_lt}
use Rattle.bounded.specs.declared.list.BoundedList.{BoundedList}

-- The slots in use, in order.
abbrev pub items : {T : Type 0} {most : ℕ} → BoundedList T most → List T
items l = take l.len l.slots

-- Where one item more goes, if there is room.
abbrev pub room_at : {T : Type 0} → ℕ → List T → Option ℕ
room_at most xs = cond (nat_lt (length xs) most) (Some (length xs)) None

-- The list after an item was offered that got this place, or none.
abbrev pub pushed : {T : Type 0} → Option ℕ → List T → T → List T
pushed None xs x = xs
pushed (Some at) xs x = xs ++ x ∷ []

-- The list, if it has no more items than it may.
abbrev pub fitting : {T : Type 0} → ℕ → List T → Option (List T)
fitting most xs = cond (nat_le (length xs) most) (Some xs) None
