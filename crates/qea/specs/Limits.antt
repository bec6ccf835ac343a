-- The limits of the subject, as src/limits.rt names them.
use Rattle.std.specs.Prelude.{ℕ}

-- a value is a whole number from -max_value to max_value
abbrev pub max_value : ℕ
max_value = 1_000_000_000_000

-- quantifier k governs variable k, so this is also the number of variables
abbrev pub max_quantifiers : ℕ
max_quantifiers = 4

abbrev pub registers : ℕ
registers = 4

-- the variables, and after them the registers
abbrev pub places : ℕ
places = 8

abbrev pub max_states : ℕ
max_states = 16

abbrev pub max_patterns : ℕ
max_patterns = 16

-- the most terms of a pattern, and the most values of an event
abbrev pub max_terms : ℕ
max_terms = 4

abbrev pub max_transitions : ℕ
max_transitions = 48

abbrev pub max_guards : ℕ
max_guards = 32

abbrev pub max_actions : ℕ
max_actions = 32

abbrev pub max_domain : ℕ
max_domain = 64

abbrev pub max_configurations : ℕ
max_configurations = 8
