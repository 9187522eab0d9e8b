-- Letters of a typed line.
use Rattle.std.specs.Prelude.{ℕ, ◌-◌, ◌&&◌, nat_le, if◌then◌else◌}

-- CP/M 2.2 Operating System Manual, section 1.4, Built-in Commands: small letters are made capital; own: a to z and no other byte
abbrev pub capital : ℕ → ℕ
capital c = if nat_le 0x61 c && nat_le c 0x7A then c - 0x20 else c
