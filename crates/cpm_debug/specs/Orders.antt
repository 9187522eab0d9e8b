-- The debugger's orders. All of it is own.
use Rattle.std.specs.Prelude.{ℕ, ◌+◌, ◌-◌, ◌*◌, ◌==◌, if◌then◌else◌, List, [], ◌∷◌, Option, Some, None, option_map, option_and_then}
use Rattle.cpm_script.specs.KeyText.{count_of, is_within, keys_of}
use Rattle.cpm_debug.specs.declared.order.Order.{Order}
use Rattle.cpm_debug.specs.declared.order.Order.TheVariants as order

-- what a line asks for
pub data DebugRequest : Type 0 where
  Grant : (steps : ℕ) → DebugRequest
  GrantUntil : (pc steps : ℕ) → DebugRequest
  Dump : (address : ℕ) → DebugRequest
  ListAt : (address : ℕ) → DebugRequest
  Registers : DebugRequest
  Press : (keys : List ℕ) → DebugRequest
  Output : DebugRequest
  Quit : DebugRequest
  Unknown : DebugRequest

-- ---- addresses

-- a hexadecimal digit: 0 to 9, A to F, a to f
abbrev pub hex_digit_of : ℕ → Option ℕ
hex_digit_of c = if is_within 0x30 0x39 c then Some (c - 0x30)
    else (if is_within 0x41 0x46 c then Some (c - 55) else (if is_within 0x61 0x66 c then Some (c - 87) else None))

-- two numbers as one, the first of which counts so much
abbrev pub digits_joined : ℕ → Option ℕ → Option ℕ → Option ℕ
digits_joined base high low = option_and_then (λ h. option_map (λ l. h * base + l) low) high

abbrev pub byte_of_digits : ℕ → ℕ → Option ℕ
byte_of_digits high low = digits_joined 16 (hex_digit_of high) (hex_digit_of low)

abbrev pub word_of_digits : ℕ → ℕ → ℕ → ℕ → Option ℕ
word_of_digits a b c d = digits_joined 256 (byte_of_digits a b) (byte_of_digits c d)

-- an address has four digits
abbrev pub address_of : List ℕ → Option ℕ
address_of (a ∷ b ∷ c ∷ d ∷ []) = word_of_digits a b c d
address_of _ = None

-- ---- the text of an order

-- S and a count
abbrev pub grant_of : Option ℕ → DebugRequest
grant_of (Some steps) = Grant steps
grant_of None = Unknown

-- G, an address, a space and a count
abbrev pub grant_until_of : Option ℕ → Option ℕ → DebugRequest
grant_until_of (Some pc) (Some steps) = GrantUntil pc steps
grant_until_of (Some pc) None = Unknown
grant_until_of None steps = Unknown

abbrev pub addressed_grant : List ℕ → DebugRequest
addressed_grant (a ∷ b ∷ c ∷ d ∷ e ∷ count) = if e == 0x20 then grant_until_of (word_of_digits a b c d) (count_of count) else Unknown
addressed_grant _ = Unknown

-- D and an address
abbrev pub dump_of : Option ℕ → DebugRequest
dump_of (Some address) = Dump address
dump_of None = Unknown

-- L and an address
abbrev pub list_of : Option ℕ → DebugRequest
list_of (Some address) = ListAt address
list_of None = Unknown

-- K and keys as a key script writes them, at least one
abbrev pub press_of : Option (List ℕ) → DebugRequest
press_of (Some (key ∷ keys)) = Press (key ∷ keys)
press_of (Some []) = Unknown
press_of None = Unknown

-- ---- orders

-- an order of a letter: R, O, Q
abbrev pub letter_request : ℕ → DebugRequest
letter_request c = if c == 0x52 then Registers else (if c == 0x4F then Output else (if c == 0x51 then Quit else Unknown))

-- an order of a letter, a space and a text: S, G, D, L, K
abbrev pub text_request : ℕ → List ℕ → DebugRequest
text_request c text = if c == 0x53 then grant_of (count_of text)
    else (if c == 0x47 then addressed_grant text
    else (if c == 0x44 then dump_of (address_of text)
    else (if c == 0x4C then list_of (address_of text)
    else (if c == 0x4B then press_of (keys_of text) else Unknown))))

-- what a line asks for; a line of no other form is unknown
abbrev pub request_of : List ℕ → DebugRequest
request_of [] = Unknown
request_of (c ∷ []) = letter_request c
request_of (c ∷ space ∷ text) = if space == 0x20 then text_request c text else Unknown

-- what an order that was read asks for
abbrev pub request_of_order : Order → DebugRequest
request_of_order (order.Grant steps) = Grant steps
request_of_order (order.GrantUntil pc steps) = GrantUntil pc steps
request_of_order (order.Dump address) = Dump address
request_of_order (order.ListAt address) = ListAt address
request_of_order order.Registers = Registers
request_of_order (order.Press text) = press_of (keys_of text.now)
request_of_order order.Output = Output
request_of_order order.Quit = Quit
request_of_order order.Unknown = Unknown
