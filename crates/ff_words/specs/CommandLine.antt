-- The program's command line, as `clap` is told of it.
use Rattle.std.specs.Prelude.{◌≡◌, codes, pos, true, false, Some}
use Rattle.clap.specs.Words.{App, Rule, app_of, new_app, new_rule, with_rule, with_subcommand}
use Rattle.clap.specs.declared.builder.action.ArgAction.TheVariants.{Set}
use Rattle.clap.specs.declared.builder.command.Command.{Command, out-Command}
use Rattle.clap.specs.declared.builder.value_parser.ValueParser.TheVariants as vp

-- the number behind `load`
abbrev pub number_rule : Rule
number_rule = record (new_rule (codes "N")) {
  required = true;
  action = Some Set;
  parser = Some (vp.Signed (pos 0) (pos 4294967295));
}

-- the command `load`
abbrev pub load_app : App
load_app = with_rule (new_app (codes "load")) number_rule

-- the program's name, behind which a command must stand; help is no command and no flag
abbrev pub named : App
named = record (new_app (codes "flatflash")) {
  top = record (new_app (codes "flatflash")).top {
    subcommand_required = true;
    disable_help_flag = true;
    disable_help_subcommand = true;
  };
}

-- the program's command line
unfoldable pub flatflash : App
flatflash =
    with_subcommand
    (with_subcommand (with_subcommand named (new_app (codes "schedule")).top)
    (new_app (codes "threads")).top)
    load_app.top

-- a command is told so to `clap`, and none of its arguments is also its subcommands'
pub record IsToldAs (command : Command) (app : App) : Type 0 where
  pub told : app_of command ≡ app
  pub own : (out-Command command).has_globals ≡ false
