-- Keep-alives: how long a context is kept that is not used.
use Rattle.std.specs.Prelude.{ℕ, ◌*◌, List, Bool, ◌&&◌, codes, Option, Some, None, option_and_then, nat_le, if◌then◌else◌, take, drop, slice_index}
use Rattle.std.specs.List.{prefix_len}
use Rattle.std.specs.Char.{is_ascii_digit}
use Rattle.std.specs.Str.{bytes_eq}
use Rattle.std.specs.Str.Parse.{digits_value}

-- 24 hours, in milliseconds
abbrev pub day_ms : ℕ
day_ms = 86400000

-- how many milliseconds a unit has
abbrev pub unit_ms : List ℕ → Option ℕ
unit_ms unit =
    if bytes_eq unit (codes "d") then Some 86400000 else
    (if bytes_eq unit (codes "h") then Some 3600000 else
    (if bytes_eq unit (codes "m") then Some 60000 else
    (if bytes_eq unit (codes "s") then Some 1000 else
    (if bytes_eq unit (codes "ms") then Some 1 else None))))

-- the first character is a digit from 1 to 9
abbrev pub begins_with_1_to_9 : List ℕ → Bool
begins_with_1_to_9 text = nat_le 49 (slice_index text 0) && nat_le (slice_index text 0) 57

-- so many units, of so many milliseconds each, where these are 24 hours at most
abbrev pub of_units : ℕ → ℕ → Option ℕ
of_units count unit = if nat_le (count * unit) day_ms then Some (count * unit) else None

-- The milliseconds that a text spells: digits of which the first is no zero, and a unit after them.
unfoldable pub keep_alive_of : List ℕ → Option ℕ
keep_alive_of text =
    let end = prefix_len is_ascii_digit text in
    if begins_with_1_to_9 text then option_and_then (of_units (digits_value 10 (take end text))) (unit_ms (drop end text)) else None
