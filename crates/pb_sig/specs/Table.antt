-- The table of built-in modules, whose rows the program writes out.
pub use Rattle.pb_language.specs.Builtins.{builtins, command, copy, file, file_facts, host_facts}
pub use Rattle.pb_language.specs.Builtins.{ping, program, service, setup, shell, slots, stat}
