mod DeclSteps
