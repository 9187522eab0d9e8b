-- The files that a command names, in their order. All of it is own.
use Rattle.std.specs.Prelude.{List, [], ◌∷◌, map, Option, Some, None}
use Rattle.cpm_store.specs.Files.{StoreName}
use Rattle.cpm_commands.specs.declared.plan.FilePlan.{FilePlan}
use Rattle.cpm_commands.specs.declared.plan.FileRole.{FileRole}
use Rattle.cpm_commands.specs.declared.plan.OutputNaming.{OutputNaming}
use Rattle.cpm_commands.specs.declared.plan.PlannedFile.{PlannedFile}

-- a file, and what it is to the command
pub record PlannedName : Type 0 where
  pub name : StoreName
  pub role : FileRole

abbrev pub planned : StoreName → FileRole → PlannedName
planned name role = record { name = name; role = role }

abbrev pub all_planned : FileRole → List StoreName → List PlannedName
all_planned role names = map (λ name. planned name role) names

abbrev pub planned_if_any : FileRole → Option StoreName → List PlannedName
planned_if_any role None = []
planned_if_any role (Some name) = planned name role ∷ []

-- what is read and what is written, each in its order, and how what is written takes its names
pub record Plan : Type 0 where
  pub inputs : List PlannedName
  pub outputs : List PlannedName
  pub naming : OutputNaming

abbrev pub named_files : List PlannedFile → List PlannedName
named_files files = map (λ f. planned f.name.now f.role) files

abbrev pub plan_view : FilePlan → Plan
plan_view p = record {
  inputs = named_files p.inputs.items;
  outputs = named_files p.outputs.items;
  naming = p.naming;
}
